-- Whatever statement is spelled is read, and nothing else stands in its place.
use Rattle.std.proofs.Common.{◌≡◌, ℕ, zero, suc, pred, max, ◌-◌, ◌<◌, ◌≤◌, Bool, true, false, List, [], ◌∷◌, ◌++◌, length, length-append, append_assoc, append-nil, Option, Some, None, refl, sym, ap, subst, ◌∙◌, arith}
use Rattle.xmt_lex.specs.declared.Token.{Token}
use Rattle.xmt_lex.specs.declared.TokenKind.{TokenKind}
use Rattle.xmt_lex.specs.declared.TokenKind.TheVariants as kind
use Rattle.xmt_lex.specs.declared.kinds.Keyword.{Keyword}
use Rattle.xmt_lex.specs.declared.kinds.Keyword.TheVariants as k
use Rattle.xmt_lex.specs.declared.kinds.Mark.{Mark}
use Rattle.xmt_lex.specs.declared.kinds.Mark.TheVariants as m
use Rattle.raw_tree.specs.declared.tree.Qualifier.{Qualifier}
use Rattle.raw_tree.specs.declared.tree.Qualifier.TheVariants as q
use Rattle.raw_tree.specs.declared.tree.RawSpot.{RawSpot}
use Rattle.raw_tree.specs.declared.tree.RawExpr.{RawExpr}
use Rattle.raw_tree.specs.declared.tree.RawType.{RawType}
use Rattle.raw_tree.specs.declared.tree.RawLocal.{RawLocal}
use Rattle.raw_tree.specs.declared.tree.RawDecl.{RawDecl}
use Rattle.raw_tree.specs.declared.tree.RawFirst.{RawFirst}
use Rattle.raw_tree.specs.declared.tree.RawFirst.TheVariants as first
use Rattle.raw_tree.specs.declared.tree.RawStmt.{RawStmt}
use Rattle.raw_tree.specs.declared.tree.RawStmtKind.TheVariants as s
use Rattle.raw_tree.specs.Level.{Tokens, Level, Whole, Stops, joins}
use Rattle.raw_tree.specs.Grammar.{name_of, Spells}
use Rattle.raw_tree.specs.Statements.{Key, Is, IsName, text_of, statement, SpellsWords, done, const, volatile, SpellsType, words, SpellsOpening, no_value, a_value, SpellsMaybe, nothing, just, SpellsLocal, local, SpellsDecl, decl, SpellsFirst, first_decl, first_value, first_nothing, SpellsBehind, end, values, SpellsStmt, empty, value, block, if_alone, if_else, while, do_while, for, break, continue, return, spawn, ps, psm, print, SpellsBody, no_more, one_declared, one_more}
use Rattle.raw_tree.specs.Reading.{Got, ReaderOf, Reader, got, past, close_round, read_parted, step_place, expression}
use Rattle.raw_tree.specs.ReadingStatements.{after, semicolon, equal, close_curly, is_else, begins_type, read_words, read_type, opening_value, opening_at, read_opening, read_local, read_decl, read_maybe, read_first, read_behind, body, body_step, read_body, else_part, with_else, read_declare, read_value, begun_stmt, piece_of, read_stmt, read_piece}
use Rattle.raw_tree.proofs.Parted.{NoComma, complete_list}
use Rattle.raw_tree.proofs.Complete.{starts, Begins, begins, complete, complete_values, complete_place}

-- ---- what tokens stop an expression or begin one

pub mark_stops : (c : Token) (mark : Mark) (ts : Tokens) → Is c mark → 13 < joins (kind.Mark mark) → Stops 13 (c ∷ ts)
mark_stops c mark ts h stops = rw h stops

not_equal : (q : TokenKind) → 13 < joins q → equal q ≡ false
not_equal (kind.Mark m.Equal) h = absurd (omega (arith, h))
not_equal _ h = refl

starts_semicolon : (q : TokenKind) → starts q ≡ true → semicolon q ≡ false
starts_semicolon (kind.Mark m.Semicolon) h = absurd (cc)
starts_semicolon _ h = refl

starts_round : (q : TokenKind) → starts q ≡ true → close_round q ≡ false
starts_round (kind.Mark m.CloseRound) h = absurd (cc)
starts_round _ h = refl

pub starts_curly : (q : TokenKind) → starts q ≡ true → close_curly q ≡ false
starts_curly (kind.Mark m.CloseCurly) h = absurd (cc)
starts_curly _ h = refl

starts_else : (q : TokenKind) → starts q ≡ true → is_else q ≡ false
starts_else (kind.Keyword k.Else) h = absurd (cc)
starts_else _ h = refl

starts_type : (q : TokenKind) → starts q ≡ true → begins_type q ≡ false
starts_type (kind.Keyword k.Int) h = absurd (cc)
starts_type (kind.Keyword k.Const) h = absurd (cc)
starts_type (kind.Keyword k.Volatile) h = absurd (cc)
starts_type _ h = refl

pub type_curly : (q : TokenKind) → begins_type q ≡ true → close_curly q ≡ false
type_curly (kind.Mark m.CloseCurly) h = absurd (cc)
type_curly _ h = refl

type_else : (q : TokenKind) → begins_type q ≡ true → is_else q ≡ false
type_else (kind.Keyword k.Else) h = absurd (cc)
type_else _ h = refl

-- the tokens do not begin with `else`
abbrev pub NoElse : Tokens → Type 0
NoElse [] = Unit {0}
NoElse (t ∷ ts) = is_else t.kind ≡ false

-- ---- types

word_int : (front : List Qualifier) (t : Token) (r : Tokens) → Key t k.Int → read_words front (t ∷ r) ≡ got (front ++ []) 0 r
word_int front t r h = rw h (ap (λ (z : List Qualifier). got z 0 r) (sym (append-nil front)))

word_const : (front : List Qualifier) (t : Token) (ts : Tokens) → Key t k.Const → read_words front (t ∷ ts) ≡ read_words (front ++ q.Const ∷ []) ts
word_const front t ts h = rw h

word_volatile : (front : List Qualifier) (t : Token) (ts : Tokens) → Key t k.Volatile → read_words front (t ∷ ts) ≡ read_words (front ++ q.Volatile ∷ []) ts
word_volatile front t ts h = rw h

reads_words : {ws : List Qualifier} {x : Tokens} → SpellsWords ws x → (front : List Qualifier) (r : Tokens) → read_words front (x ++ r) ≡ got (front ++ ws) 0 r
reads_words (done t h) front r = word_int front t r h
reads_words (const t {words = ws} {x = x} h rest) front r =
    word_const front t (x ++ r) h ∙ reads_words rest (front ++ q.Const ∷ []) r ∙ ap (λ (z : List Qualifier). got z 0 r) (append_assoc front (q.Const ∷ []) ws)
reads_words (volatile t {words = ws} {x = x} h rest) front r =
    word_volatile front t (x ++ r) h ∙ reads_words rest (front ++ q.Volatile ∷ []) r ∙ ap (λ (z : List Qualifier). got z 0 r) (append_assoc front (q.Volatile ∷ []) ws)

typed : (t : Token) (ts r : Tokens) (ws : List Qualifier) → read_words [] (t ∷ ts) ≡ got ws 0 r → read_type (t ∷ ts) ≡ got (record { at = t.place; qualifiers = ws }) 0 r
typed t ts r ws found = rw found

pub reads_type : {ty : RawType} {x : Tokens} → SpellsType ty x → (r : Tokens) → read_type (x ++ r) ≡ got ty 0 r
reads_type (words t {ws = ws} {x = x} h) r = typed t (x ++ r) r ws (reads_words h [] r)

words_begin : {ws : List Qualifier} {x : Tokens} → SpellsWords ws x → (t : Token) × (y : Tokens) × (x ≡ t ∷ y) × (begins_type t.kind ≡ true)
words_begin (done t h) = (t, [], refl, ap begins_type h)
words_begin (const t {x = x} h rest) = (t, x, refl, ap begins_type h)
words_begin (volatile t {x = x} h rest) = (t, x, refl, ap begins_type h)

pub type_begins : {ty : RawType} {x : Tokens} → SpellsType ty x → (t : Token) × (y : Tokens) × (x ≡ t ∷ y) × (begins_type t.kind ≡ true)
type_begins (words t h) = words_begin h

pub no_equal : (r : Tokens) → Stops 13 r → past equal r ≡ None
no_equal [] h = refl
no_equal (t ∷ ts) h = rw (not_equal t.kind h)

module _ (source : List ℕ) where
  -- ---- declarations

  opened_none : (read : Reader) (r : Tokens) → Stops 13 r → read_opening read r ≡ got None 0 r
  opened_none read r h = ap (opening_at read r) (no_equal r h)

  opened_some : (read : Reader) (e : Token) (a : RawExpr) (n : ℕ) (ts r : Tokens) → Is e m.Equal → read ts ≡ got a n r → read_opening read (e ∷ ts) ≡ got (Some a) n r
  opened_some read e a n ts r h found = rw (h, found)

  pub reads_opening : (depth : ℕ) (l : Level) (read : Reader) → ((n : ℕ) (a : RawExpr) (x r : Tokens) → Spells source n l a x → n ≤ depth → Stops 13 r → read (x ++ r) ≡ got a n r) →
      {n : ℕ} {v : Option RawExpr} {x : Tokens} → SpellsOpening source l n v x → (r : Tokens) → n ≤ depth → Stops 13 r → read_opening read (x ++ r) ≡ got v n r
  reads_opening depth l read each no_value r fits stops = opened_none read r stops
  reads_opening depth l read each (a_value e {n = n} {a = a} {x = x} h spelled) r fits stops = opened_some read e a n (x ++ r) r h (each n a x r spelled fits stops)

  named_local : (whole : Reader) (t : Token) (v : Option RawExpr) (n : ℕ) (ts r : Tokens) → IsName t → read_opening whole ts ≡ got v n r → read_local source whole (t ∷ ts) ≡ got (record { name = name_of source t; value = v }) n r
  named_local whole t v n ts r h found = rw (h, found)

  reads_local : (depth n : ℕ) (l : RawLocal) (x r : Tokens) → SpellsLocal source n l x → n ≤ depth → Stops 13 r → read_local source (expression source depth) (x ++ r) ≡ got l n r
  reads_local depth n l x r (local t {opening = v} {x = y} h opening) fits stops =
      named_local (expression source depth) t v n (y ++ r) r h (reads_opening depth Whole (expression source depth) (λ i a z w spelled small stop. complete source depth i a z w spelled small stop) opening r fits stops)

  pub stops_comma : (t : Token) (ts : Tokens) → t.kind ≡ kind.Mark m.Comma → Stops 13 (t ∷ ts)
  stops_comma t ts h = mark_stops t m.Comma ts h (omega arith)

  declared : (whole : Reader) (ty : RawType) (all : List RawLocal) (n : ℕ) (e : Token) (ts us r : Tokens) → read_type ts ≡ got ty 0 us → read_parted (read_local source whole) us ≡ got all n (e ∷ r) → Is e m.Semicolon →
      read_decl source whole ts ≡ got (record { at = ty.at; ty = ty; locals = all }) n r
  declared whole ty all n e ts us r types locals h = rw (types, locals, h)

  pub ends_semicolon : (e : Token) (r : Tokens) → Is e m.Semicolon → NoComma (e ∷ r)
  ends_semicolon e r h = rw h

  pub ends_round : (e : Token) (r : Tokens) → Is e m.CloseRound → NoComma (e ∷ r)
  ends_round e r h = rw h

  reads_decl : (depth : ℕ) {n : ℕ} {d : RawDecl} {x : Tokens} → SpellsDecl source n d x → (r : Tokens) → n ≤ depth → read_decl source (expression source depth) (x ++ r) ≡ got d n r
  reads_decl depth (decl e {n = n} {ty = ty} {locals = all} {x = x} {y = y} types locals h) r fits =
      ap (read_decl source (expression source depth)) (append_assoc x (y ++ e ∷ []) r ∙ ap (λ (w : Tokens). x ++ w) (append_assoc y (e ∷ []) r))
      ∙ declared (expression source depth) ty all n e (x ++ (y ++ (e ∷ r))) (y ++ (e ∷ r)) r (reads_type types (y ++ (e ∷ r)))
      (complete_list RawLocal (SpellsLocal source) (read_local source (expression source depth)) depth (Stops 13) (λ i a z w spelled small stop. reads_local depth i a z w spelled small stop) stops_comma locals (e ∷ r) fits (mark_stops e m.Semicolon r h (omega arith)) (ends_semicolon e r h)) h

  goes_type : (x z : Tokens) → (t : Token) × (y : Tokens) × (x ≡ t ∷ y) × (begins_type t.kind ≡ true) → (t : Token) × (y : Tokens) × (x ++ z ≡ t ∷ y) × (begins_type t.kind ≡ true)
  goes_type x z (t, y, is, h) = (t, y ++ z, ap (λ (w : Tokens). w ++ z) is, h)

  decl_begins : {n : ℕ} {d : RawDecl} {x : Tokens} → SpellsDecl source n d x → (t : Token) × (y : Tokens) × (x ≡ t ∷ y) × (begins_type t.kind ≡ true)
  decl_begins (decl e {x = x} {y = y} types locals h) = goes_type x (y ++ e ∷ []) (type_begins types)

  -- ---- the parts of statements

  left_out : (stop : TokenKind → Bool) (whole : Reader) (c : Token) (r : Tokens) → stop c.kind ≡ true → read_maybe stop whole (c ∷ r) ≡ got None 0 (c ∷ r)
  left_out stop whole c r h = rw h

  put_in : (stop : TokenKind → Bool) (whole : Reader) (t : Token) (ts : Tokens) (a : RawExpr) (n : ℕ) (r : Tokens) → stop t.kind ≡ false → whole (t ∷ ts) ≡ got a n r → read_maybe stop whole (t ∷ ts) ≡ got (Some a) n r
  put_in stop whole t ts a n r h found = rw h (ap opening_value found)

  put_in_at : (stop : TokenKind → Bool) (whole : Reader) (x r : Tokens) (a : RawExpr) (n : ℕ) → ((q : TokenKind) → starts q ≡ true → stop q ≡ false) → Begins x → whole (x ++ r) ≡ got a n r → read_maybe stop whole (x ++ r) ≡ got (Some a) n r
  put_in_at stop whole x r a n other (t, y, is, h) found =
      subst (λ (z : Tokens). read_maybe stop whole (z ++ r) ≡ got (Some a) n r) (sym is)
      (put_in stop whole t (y ++ r) a n r (other t.kind h) (subst (λ (z : Tokens). whole (z ++ r) ≡ got a n r) is found))

  reads_maybe : (stop : TokenKind → Bool) → ((q : TokenKind) → starts q ≡ true → stop q ≡ false) → (depth : ℕ) {n : ℕ} {v : Option RawExpr} {x : Tokens} → SpellsMaybe source n v x → (c : Token) (r : Tokens) → n ≤ depth → stop c.kind ≡ true → Stops 13 (c ∷ r) →
      read_maybe stop (expression source depth) (x ++ (c ∷ r)) ≡ got v n (c ∷ r)
  reads_maybe stop other depth nothing c r fits h stops = left_out stop (expression source depth) c r h
  reads_maybe stop other depth (just {n = n} {a = a} {x = x} spelled) c r fits h stops =
      put_in_at stop (expression source depth) x (c ∷ r) a n other (begins source spelled) (complete source depth n a x (c ∷ r) spelled fits stops)

  first_by_type : (whole : Reader) (t : Token) (ts r : Tokens) (d : RawDecl) (n : ℕ) → begins_type t.kind ≡ true → read_decl source whole (t ∷ ts) ≡ got d n r → read_first source whole (t ∷ ts) ≡ got (first.Decl d) 0 r
  first_by_type whole t ts r d n h found = rw h (ap (λ (o : Option (Got RawDecl)). after o (λ g. got (first.Decl g.tree) 0 g.rest)) found)

  first_by_value : (whole : Reader) (t e : Token) (ts r : Tokens) (a : RawExpr) (n : ℕ) → begins_type t.kind ≡ false → semicolon t.kind ≡ false → whole (t ∷ ts) ≡ got a n (e ∷ r) → Is e m.Semicolon →
      read_first source whole (t ∷ ts) ≡ got (first.Value (Some a)) 0 r
  first_by_value whole t e ts r a n h other found ends = rw (h, other, found, ends)

  first_none : (whole : Reader) (e : Token) (r : Tokens) → Is e m.Semicolon → read_first source whole (e ∷ r) ≡ got (first.Value None) 0 r
  first_none whole e r h = rw h

  reads_first : (depth : ℕ) {n : ℕ} {f : RawFirst} {x : Tokens} → SpellsFirst source n f x → (r : Tokens) → n ≤ suc depth → read_first source (expression source depth) (x ++ r) ≡ got f 0 r
  reads_first depth (first_decl {n = n} {d = d} {x = x} spelled) r fits =
      let (t, y, is, h) = decl_begins spelled in
      subst (λ (z : Tokens). read_first source (expression source depth) (z ++ r) ≡ got (first.Decl d) 0 r) (sym is)
      (first_by_type (expression source depth) t (y ++ r) r d n h (subst (λ (z : Tokens). read_decl source (expression source depth) (z ++ r) ≡ got d n r) is (reads_decl depth spelled r (omega (arith, fits)))))
  reads_first depth (first_value e {n = n} {a = a} {x = x} spelled h) r fits =
      let (t, y, is, b) = begins source spelled in
      ap (read_first source (expression source depth)) (append_assoc x (e ∷ []) r)
      ∙ subst (λ (z : Tokens). read_first source (expression source depth) (z ++ (e ∷ r)) ≡ got (first.Value (Some a)) 0 r) (sym is)
      (first_by_value (expression source depth) t e (y ++ (e ∷ r)) r a n (starts_type t.kind b) (starts_semicolon t.kind b)
      (subst (λ (z : Tokens). expression source depth (z ++ (e ∷ r)) ≡ got a n (e ∷ r)) is (complete source depth n a x (e ∷ r) spelled (omega (arith, fits)) (mark_stops e m.Semicolon r h (omega arith)))) h)
  reads_first depth (first_nothing e h) r fits = first_none (expression source depth) e r h

  reads_first_less : (d : ℕ) {n : ℕ} {f : RawFirst} {x : Tokens} → SpellsFirst source n f x → (r : Tokens) → n ≤ d → read_first source (expression source (pred d)) (x ++ r) ≡ got f 0 r
  reads_first_less zero spelled r fits = reads_first zero spelled r (omega arith)
  reads_first_less (suc d) spelled r fits = reads_first d spelled r fits

  none_behind : (whole : Reader) (c : Token) (r : Tokens) → Is c m.CloseRound → read_behind whole (c ∷ r) ≡ got [] 0 (c ∷ r)
  none_behind whole c r h = rw h

  some_behind : (whole : Reader) (t : Token) (ts r : Tokens) (all : List RawExpr) (n : ℕ) → Is t m.Comma → read_parted whole ts ≡ got all n r → read_behind whole (t ∷ ts) ≡ got all n r
  some_behind whole t ts r all n h found = rw h found

  reads_behind : (depth : ℕ) {n : ℕ} {all : List RawExpr} {x : Tokens} → SpellsBehind source n all x → (c : Token) (r : Tokens) → n ≤ depth → Is c m.CloseRound → read_behind (expression source depth) (x ++ (c ∷ r)) ≡ got all n (c ∷ r)
  reads_behind depth end c r fits h = none_behind (expression source depth) c r h
  reads_behind depth (values t {n = n} {all = all} {x = x} k list) c r fits h =
      some_behind (expression source depth) t (x ++ (c ∷ r)) (c ∷ r) all n k (complete_values source depth list (c ∷ r) fits (mark_stops c m.CloseRound r h (omega arith)) (ends_round c r h))

  -- ---- one statement, by its first token

  abbrev Whole_at : ℕ → Reader
  Whole_at d = expression source d

  begun_empty : (whole less : Reader) (inner piece : ReaderOf RawStmt) (e : Token) (r : Tokens) → Is e m.Semicolon → begun_stmt source whole less inner piece e e.kind r ≡ got (statement e.place s.Empty) 0 r
  begun_empty whole less inner piece e r h = rw h

  is_value : (whole less : Reader) (inner piece : ReaderOf RawStmt) (t : Token) (ts : Tokens) (q : TokenKind) → starts q ≡ true → begun_stmt source whole less inner piece t q ts ≡ read_value whole (t ∷ ts)
  is_value whole less inner piece t ts kind.Name h = refl
  is_value whole less inner piece t ts (kind.Number v) h = refl
  is_value whole less inner piece t ts (kind.Mark m.Dollar) h = refl
  is_value whole less inner piece t ts (kind.Mark m.OpenRound) h = refl
  is_value whole less inner piece t ts (kind.Mark m.Minus) h = refl
  is_value whole less inner piece t ts (kind.Mark m.Plus) h = refl
  is_value whole less inner piece t ts (kind.Mark m.Not) h = refl
  is_value whole less inner piece t ts (kind.Mark m.Tilde) h = refl
  is_value whole less inner piece t ts (kind.Mark m.PlusPlus) h = refl
  is_value whole less inner piece t ts (kind.Mark m.MinusMinus) h = refl
  is_value whole less inner piece t ts _ h = absurd (cc)

  valued : (whole : Reader) (e : Token) (ts r : Tokens) (a : RawExpr) (n : ℕ) → whole ts ≡ got a n (e ∷ r) → Is e m.Semicolon → read_value whole ts ≡ got (statement a.at (s.Value a)) 0 r
  valued whole e ts r a n found h = rw (found, h)

  declares : (whole : Reader) (ts r : Tokens) (d : RawDecl) (n : ℕ) → read_decl source whole ts ≡ got d n r → read_declare source whole ts ≡ got (statement d.at (s.Decl d)) 0 r
  declares whole ts r d n found = ap (λ (o : Option (Got RawDecl)). after o (λ g. got (statement g.tree.at (s.Decl g.tree)) 0 g.rest)) found

  begun_block : (whole less : Reader) (inner piece : ReaderOf RawStmt) (t : Token) (ts r : Tokens) (all : List RawStmt) → Is t m.OpenCurly → read_body piece ts ≡ got all 0 r → begun_stmt source whole less inner piece t t.kind ts ≡ got (statement t.place (s.Block all)) 0 r
  begun_block whole less inner piece t ts r all h found = rw h (ap (λ (o : Option (Got (List RawStmt))). after o (λ c. got (statement t.place (s.Block c.tree)) 0 c.rest)) found)

  begun_if : (whole less : Reader) (inner piece : ReaderOf RawStmt) (t o c : Token) (a : RawExpr) (i : ℕ) (b : RawStmt) (x w v : Tokens) → Key t k.If → Is o m.OpenRound → whole (x ++ (c ∷ w)) ≡ got a i (c ∷ w) → Is c m.CloseRound → inner w ≡ got b 0 v →
      begun_stmt source whole less inner piece t t.kind (o ∷ (x ++ (c ∷ w))) ≡ else_part inner t a b v (past is_else v)
  begun_if whole less inner piece t o c a i b x w v ht ho test hc branch = rw (ht, ho, test, hc, branch)

  no_else : (inner : ReaderOf RawStmt) (t : Token) (a : RawExpr) (b : RawStmt) (r : Tokens) → NoElse r → else_part inner t a b r (past is_else r) ≡ got (statement t.place (s.If a b None)) 0 r
  no_else inner t a b [] h = refl
  no_else inner t a b (u ∷ ts) h = rw h

  an_else : (inner : ReaderOf RawStmt) (t u : Token) (a : RawExpr) (b e : RawStmt) (ts r : Tokens) → Key u k.Else → inner ts ≡ got e 0 r → else_part inner t a b (u ∷ ts) (past is_else (u ∷ ts)) ≡ got (statement t.place (s.If a b (Some e))) 0 r
  an_else inner t u a b e ts r h found = rw h (ap (with_else t a b) found)

  begun_while : (whole less : Reader) (inner piece : ReaderOf RawStmt) (t o c : Token) (a : RawExpr) (i : ℕ) (b : RawStmt) (x w r : Tokens) → Key t k.While → Is o m.OpenRound → whole (x ++ (c ∷ w)) ≡ got a i (c ∷ w) → Is c m.CloseRound → inner w ≡ got b 0 r →
      begun_stmt source whole less inner piece t t.kind (o ∷ (x ++ (c ∷ w))) ≡ got (statement t.place (s.While a b)) 0 r
  begun_while whole less inner piece t o c a i b x w r ht ho test hc branch = rw (ht, ho, test, hc, branch)

  begun_do : (whole less : Reader) (inner piece : ReaderOf RawStmt) (t u o c e : Token) (a : RawExpr) (i : ℕ) (b : RawStmt) (ts ys r : Tokens) → Key t k.Do → inner ts ≡ got b 0 (u ∷ o ∷ ys) → Key u k.While → Is o m.OpenRound → whole ys ≡ got a i (c ∷ e ∷ r) → Is c m.CloseRound → Is e m.Semicolon →
      begun_stmt source whole less inner piece t t.kind ts ≡ got (statement t.place (s.Do b a)) 0 r
  begun_do whole less inner piece t u o c e a i b ts ys r ht branch hu ho test hc he = rw (ht, branch, hu, ho, test, hc, he)

  begun_for : (whole less : Reader) (inner piece : ReaderOf RawStmt) (t o e c : Token) (f : RawFirst) (p q : Option RawExpr) (i j : ℕ) (b : RawStmt) (vs xs ys w r : Tokens) → Key t k.For → Is o m.OpenRound →
      read_first source less vs ≡ got f 0 xs → read_maybe semicolon whole xs ≡ got p i (e ∷ ys) → Is e m.Semicolon → read_maybe close_round whole ys ≡ got q j (c ∷ w) → Is c m.CloseRound → inner w ≡ got b 0 r →
      begun_stmt source whole less inner piece t t.kind (o ∷ vs) ≡ got (statement t.place (s.For f p q b)) 0 r
  begun_for whole less inner piece t o e c f p q i j b vs xs ys w r ht ho hf hp he hq hc branch = rw (ht, ho, hf, hp, he, hq, hc, branch)

  begun_break : (whole less : Reader) (inner piece : ReaderOf RawStmt) (t e : Token) (r : Tokens) → Key t k.Break → Is e m.Semicolon → begun_stmt source whole less inner piece t t.kind (e ∷ r) ≡ got (statement t.place s.Break) 0 r
  begun_break whole less inner piece t e r ht he = rw (ht, he)

  begun_continue : (whole less : Reader) (inner piece : ReaderOf RawStmt) (t e : Token) (r : Tokens) → Key t k.Continue → Is e m.Semicolon → begun_stmt source whole less inner piece t t.kind (e ∷ r) ≡ got (statement t.place s.Continue) 0 r
  begun_continue whole less inner piece t e r ht he = rw (ht, he)

  begun_return : (whole less : Reader) (inner piece : ReaderOf RawStmt) (t e : Token) (a : Option RawExpr) (n : ℕ) (ts r : Tokens) → Key t k.Return → read_maybe semicolon whole ts ≡ got a n (e ∷ r) → Is e m.Semicolon →
      begun_stmt source whole less inner piece t t.kind ts ≡ got (statement t.place (s.Return a)) 0 r
  begun_return whole less inner piece t e a n ts r ht found he = rw (ht, found, he)

  begun_spawn : (whole less : Reader) (inner piece : ReaderOf RawStmt) (t o v c p : Token) (a b : RawExpr) (i j : ℕ) (all : List RawStmt) (xs ys zs r : Tokens) → Key t k.Spawn → Is o m.OpenRound → whole xs ≡ got a i (v ∷ ys) → Is v m.Comma → whole ys ≡ got b j (c ∷ p ∷ zs) → Is c m.CloseRound → Is p m.OpenCurly →
      read_body piece zs ≡ got all 0 r → begun_stmt source whole less inner piece t t.kind (o ∷ xs) ≡ got (statement t.place (s.Spawn a b all)) 0 r
  begun_spawn whole less inner piece t o v c p a b i j all xs ys zs r ht ho low hv high hc hp found = rw (ht, ho, low, hv, high, hc, hp) (ap (λ (g : Option (Got (List RawStmt))). after g (λ z. got (statement t.place (s.Spawn a b z.tree)) 0 z.rest)) found)

  begun_ps : (whole less : Reader) (inner piece : ReaderOf RawStmt) (t o a v b c e : Token) (r : Tokens) → Key t k.Ps → Is o m.OpenRound → IsName a → Is v m.Comma → IsName b → Is c m.CloseRound → Is e m.Semicolon →
      begun_stmt source whole less inner piece t t.kind (o ∷ a ∷ v ∷ b ∷ c ∷ e ∷ r) ≡ got (statement t.place (s.Ps (name_of source a) (name_of source b))) 0 r
  begun_ps whole less inner piece t o a v b c e r ht ho ha hv hb hc he = rw (ht, ho, ha, hv, hb, hc, he)

  begun_psm : (whole less : Reader) (inner piece : ReaderOf RawStmt) (t o a v c e : Token) (place : RawSpot) (n : ℕ) (xs r : Tokens) → Key t k.Psm → Is o m.OpenRound → IsName a → Is v m.Comma → step_place source whole xs ≡ got place n (c ∷ e ∷ r) → Is c m.CloseRound → Is e m.Semicolon →
      begun_stmt source whole less inner piece t t.kind (o ∷ a ∷ v ∷ xs) ≡ got (statement t.place (s.Psm (name_of source a) place)) 0 r
  begun_psm whole less inner piece t o a v c e place n xs r ht ho ha hv found hc he = rw (ht, ho, ha, hv, found, hc, he)

  begun_print : (whole less : Reader) (inner piece : ReaderOf RawStmt) (t o a c e : Token) (all : List RawExpr) (n : ℕ) (xs r : Tokens) → Key t k.Printf → Is o m.OpenRound → a.kind ≡ kind.Text → read_behind whole xs ≡ got all n (c ∷ e ∷ r) → Is c m.CloseRound → Is e m.Semicolon →
      begun_stmt source whole less inner piece t t.kind (o ∷ a ∷ xs) ≡ got (statement t.place (s.Print (text_of source a) all)) 0 r
  begun_print whole less inner piece t o a c e all n xs r ht ho ha found hc he = rw (ht, ho, ha, found, hc, he)

  -- ---- statements

  -- a statement is read whatever follows; an open one, unless an `else` follows
  abbrev ReadsStmt : Bool → ℕ → RawStmt → Tokens → Type 0
  ReadsStmt open_part n b x = (depth : ℕ) (r : Tokens) → n ≤ depth → (open_part ≡ true → NoElse r) → read_stmt source depth (x ++ r) ≡ got b 0 r

  at_depth : (a : RawStmt) (n : ℕ) (t : Token) (ts r : Tokens) → ((d : ℕ) → n ≤ d → begun_stmt source (expression source d) (expression source (pred d)) (read_stmt source d) (read_piece source d) t t.kind ts ≡ got a 0 r) → (depth : ℕ) → suc n ≤ depth → read_stmt source depth (t ∷ ts) ≡ got a 0 r
  unfolding read_stmt
  at_depth a n t ts r reads zero fits = absurd (omega (arith, fits))
  at_depth a n t ts r reads (suc d) fits = reads d (omega arith)

  -- how what stands in a body begins, and how a statement does
  abbrev PieceBegins : Tokens → Type 0
  PieceBegins x = (t : Token) × (y : Tokens) × (x ≡ t ∷ y) × (close_curly t.kind ≡ false) × (is_else t.kind ≡ false)

  abbrev StmtBegins : Tokens → Type 0
  StmtBegins x = (t : Token) × (y : Tokens) × (x ≡ t ∷ y) × (close_curly t.kind ≡ false) × (is_else t.kind ≡ false) × (begins_type t.kind ≡ false)

  as_piece : (x : Tokens) → StmtBegins x → PieceBegins x
  as_piece x (t, y, is, curly, other, plain) = (t, y, is, curly, other)

  key_begins : (t : Token) (w : Keyword) (y : Tokens) → Key t w → is_else (kind.Keyword w) ≡ false → begins_type (kind.Keyword w) ≡ false → StmtBegins (t ∷ y)
  key_begins t w y h other plain = (t, y, refl, ap close_curly h, ap is_else h ∙ other, ap begins_type h ∙ plain)

  value_begins : (x z : Tokens) → Begins x → StmtBegins (x ++ z)
  value_begins x z (t, y, is, h) = (t, y ++ z, ap (λ (w : Tokens). w ++ z) is, starts_curly t.kind h, starts_else t.kind h, starts_type t.kind h)

  decl_piece_begins : (x : Tokens) → (t : Token) × (y : Tokens) × (x ≡ t ∷ y) × (begins_type t.kind ≡ true) → PieceBegins x
  decl_piece_begins x (t, y, is, h) = (t, y, is, type_curly t.kind h, type_else t.kind h)

  stmt_begins : {p : Bool} {n : ℕ} {b : RawStmt} {x : Tokens} → SpellsStmt source p n b x → StmtBegins x
  stmt_begins (empty e h) = (e, [], refl, ap close_curly h, ap is_else h, ap begins_type h)
  stmt_begins (value e {x = x} spelled h) = value_begins x (e ∷ []) (begins source spelled)
  stmt_begins (block o c h inside d) = (o, _, refl, ap close_curly h, ap is_else h, ap begins_type h)
  stmt_begins (if_alone t o c ht ho test hc branch) = key_begins t k.If _ ht refl refl
  stmt_begins (if_else t o c u ht ho test hc branch hu other) = key_begins t k.If _ ht refl refl
  stmt_begins (while t o c ht ho test hc branch) = key_begins t k.While _ ht refl refl
  stmt_begins (do_while t u o c e ht branch hu ho test hc he) = key_begins t k.Do _ ht refl refl
  stmt_begins (for t o e c ht ho f p he q hc branch) = key_begins t k.For _ ht refl refl
  stmt_begins (break t e ht he) = key_begins t k.Break _ ht refl refl
  stmt_begins (continue t e ht he) = key_begins t k.Continue _ ht refl refl
  stmt_begins (return t e ht a he) = key_begins t k.Return _ ht refl refl
  stmt_begins (spawn t o v c p z ht ho low hv high hc hp inside hz) = key_begins t k.Spawn _ ht refl refl
  stmt_begins (ps t o a v b c e ht ho ha hv hb hc he) = key_begins t k.Ps _ ht refl refl
  stmt_begins (psm t o a v c e ht ho ha hv place hc he) = key_begins t k.Psm _ ht refl refl
  stmt_begins (print t o a c e ht ho ha all hc he) = key_begins t k.Printf _ ht refl refl

  no_else_behind : (x z : Tokens) → PieceBegins x → NoElse (x ++ z)
  no_else_behind x z (t, y, is, curly, other) = subst (λ (w : Tokens). NoElse (w ++ z)) (sym is) other

  body_no_else : {n : ℕ} {all : List RawStmt} {x : Tokens} → SpellsBody source n all x → (c : Token) (r : Tokens) → Is c m.CloseCurly → NoElse (x ++ (c ∷ r))
  body_no_else no_more c r h = rw h
  body_no_else (one_declared {x = x} {y = y} dec rest) c r h = rw (append_assoc x y (c ∷ r)) (no_else_behind x (y ++ (c ∷ r)) (decl_piece_begins x (decl_begins dec)))
  body_no_else (one_more {x = x} {y = y} stmt rest) c r h = rw (append_assoc x y (c ∷ r)) (no_else_behind x (y ++ (c ∷ r)) (as_piece x (stmt_begins stmt)))

  body_ends : (piece : ReaderOf RawStmt) (turns : ℕ) (front : List RawStmt) (c : Token) (r : Tokens) → Is c m.CloseCurly → body piece turns front (c ∷ r) ≡ got (front ++ []) 0 r
  unfolding body
  body_ends piece zero front c r h = rw (h, append-nil front)
  body_ends piece (suc f) front c r h = rw (h, append-nil front)

  body_goes : (piece : ReaderOf RawStmt) (f : ℕ) (front : List RawStmt) (t : Token) (ts us : Tokens) (b : RawStmt) → close_curly t.kind ≡ false → piece (t ∷ ts) ≡ got b 0 us → body piece (suc f) front (t ∷ ts) ≡ body piece f (front ++ b ∷ []) us
  unfolding body
  body_goes piece f front t ts us b other found = rw other (ap (body_step (body piece f) front) found)

  body_goes_on : (piece : ReaderOf RawStmt) (turns : ℕ) (front : List RawStmt) (x w : Tokens) (b : RawStmt) → PieceBegins x → piece (x ++ w) ≡ got b 0 w → 1 ≤ turns → body piece turns front (x ++ w) ≡ body piece (turns - 1) (front ++ b ∷ []) w
  body_goes_on piece zero front x w b begun found some = absurd (omega (arith, some))
  body_goes_on piece (suc f) front x w b (t, y, is, curly, other) found some =
      let less : suc f - 1 ≡ f = omega arith in
      rw less
      (subst (λ (z : Tokens). body piece (suc f) front (z ++ w) ≡ body piece f (front ++ b ∷ []) w) (sym is)
      (body_goes piece f front t (y ++ w) w b curly (subst (λ (z : Tokens). piece (z ++ w) ≡ got b 0 w) is found)))

  some_tokens : (x : Tokens) → PieceBegins x → 1 ≤ length x
  some_tokens x (t, y, is, curly, other) = omega (arith, ap length is)

  plain_at : (depth : ℕ) (inner : ReaderOf RawStmt) (t : Token) (ts w : Tokens) (b : RawStmt) → begins_type t.kind ≡ false → inner (t ∷ ts) ≡ got b 0 w → piece_of source depth inner (t ∷ ts) ≡ got b 0 w
  plain_at depth inner t ts w b plain found = rw plain found

  -- a statement in a body
  reads_plain : (depth : ℕ) (inner : ReaderOf RawStmt) (x w : Tokens) (b : RawStmt) → StmtBegins x → inner (x ++ w) ≡ got b 0 w → piece_of source depth inner (x ++ w) ≡ got b 0 w
  reads_plain depth inner x w b (t, y, is, curly, other, plain) found =
      subst (λ (z : Tokens). piece_of source depth inner (z ++ w) ≡ got b 0 w) (sym is) (plain_at depth inner t (y ++ w) w b plain (subst (λ (z : Tokens). inner (z ++ w) ≡ got b 0 w) is found))

  declared_at : (d : ℕ) (inner : ReaderOf RawStmt) (t : Token) (ts w : Tokens) (dec : RawDecl) (n : ℕ) → begins_type t.kind ≡ true → read_decl source (expression source d) (t ∷ ts) ≡ got dec n w →
      piece_of source (suc d) inner (t ∷ ts) ≡ got (statement dec.at (s.Decl dec)) 0 w
  declared_at d inner t ts w dec n h found = rw h (declares (expression source d) (t ∷ ts) w dec n found)

  -- a declaration in a body
  reads_declared : (depth : ℕ) (inner : ReaderOf RawStmt) {n : ℕ} {dec : RawDecl} {x : Tokens} → SpellsDecl source n dec x → (w : Tokens) → suc n ≤ depth → piece_of source depth inner (x ++ w) ≡ got (statement dec.at (s.Decl dec)) 0 w
  reads_declared zero inner spelled w fits = absurd (omega (arith, fits))
  reads_declared (suc d) inner {n = n} {dec = dec} {x = x} spelled w fits =
      let (t, y, is, b) = decl_begins spelled in
      subst (λ (z : Tokens). piece_of source (suc d) inner (z ++ w) ≡ got (statement dec.at (s.Decl dec)) 0 w) (sym is)
      (declared_at d inner t (y ++ w) w dec n b (subst (λ (z : Tokens). read_decl source (expression source d) (z ++ w) ≡ got dec n w) is (reads_decl d spelled w (omega (arith, fits)))))

  mutual
    pub reads_body : {n : ℕ} {all : List RawStmt} {x : Tokens} → SpellsBody source n all x → (depth turns : ℕ) (front : List RawStmt) (c : Token) (r : Tokens) → n ≤ depth → Is c m.CloseCurly → length x ≤ turns →
        body (read_piece source depth) turns front (x ++ (c ∷ r)) ≡ got (front ++ all) 0 r
    reads_body no_more = λ depth turns front c r fits h long. body_ends (read_piece source depth) turns front c r h
    reads_body (one_declared {i = i} {j = j} {d = dec} {rest = rest} {x = x} {y = y} declaration others) = λ depth turns front c r fits h long.
        let begun = decl_piece_begins x (decl_begins declaration) in
        let b = statement dec.at (s.Decl dec) in
        ap (body (read_piece source depth) turns front) (append_assoc x y (c ∷ r))
        ∙ body_goes_on (read_piece source depth) turns front x (y ++ (c ∷ r)) b begun (reads_declared depth (read_stmt source depth) declaration (y ++ (c ∷ r)) (omega arith)) (omega (arith, some_tokens x begun, length-append x y, long))
        ∙ reads_body others depth (turns - 1) (front ++ b ∷ []) c r (omega arith) h (omega (arith, some_tokens x begun, length-append x y, long))
        ∙ ap (λ (z : List RawStmt). got z 0 r) (append_assoc front (b ∷ []) rest)
    reads_body (one_more {open_part = p} {i = i} {j = j} {b = b} {rest = rest} {x = x} {y = y} stmt others) = λ depth turns front c r fits h long.
        let start = stmt_begins stmt in
        let begun = as_piece x start in
        ap (body (read_piece source depth) turns front) (append_assoc x y (c ∷ r))
        ∙ body_goes_on (read_piece source depth) turns front x (y ++ (c ∷ r)) b begun (reads_plain depth (read_stmt source depth) x (y ++ (c ∷ r)) b start (reads_stmt stmt depth (y ++ (c ∷ r)) (omega arith) (λ o. body_no_else others c r h)))
        (omega (arith, some_tokens x begun, length-append x y, long))
        ∙ reads_body others depth (turns - 1) (front ++ b ∷ []) c r (omega arith) h (omega (arith, some_tokens x begun, length-append x y, long))
        ∙ ap (λ (z : List RawStmt). got z 0 r) (append_assoc front (b ∷ []) rest)

    pub reads_stmt : {p : Bool} {n : ℕ} {b : RawStmt} {x : Tokens} → SpellsStmt source p n b x → ReadsStmt p n b x
    reads_stmt (empty e h) = λ depth r fits closed. at_depth _ 0 e r r (λ d small. begun_empty (expression source d) (expression source (pred d)) (read_stmt source d) (read_piece source d) e r h) depth fits
    reads_stmt (value e {n = n} {a = a} {x = x} spelled h) = λ depth r fits closed.
        let (t, y, is, b) = begins source spelled in
        ap (read_stmt source depth) (append_assoc x (e ∷ []) r)
        ∙ subst (λ (z : Tokens). read_stmt source depth (z ++ (e ∷ r)) ≡ got (statement a.at (s.Value a)) 0 r) (sym is)
        (at_depth _ n t (y ++ (e ∷ r)) r (λ d small.
        is_value (expression source d) (expression source (pred d)) (read_stmt source d) (read_piece source d) t (y ++ (e ∷ r)) t.kind b
        ∙ valued (expression source d) e (t ∷ (y ++ (e ∷ r))) r a n (subst (λ (z : Tokens). expression source d (z ++ (e ∷ r)) ≡ got a n (e ∷ r)) is (complete source d n a x (e ∷ r) spelled small (mark_stops e m.Semicolon r h (omega arith)))) h) depth fits)
    reads_stmt (block o c {n = n} {body = all} {x = x} h inside hc) = λ depth r fits closed.
        ap (λ (w : Tokens). read_stmt source depth (o ∷ w)) (append_assoc x (c ∷ []) r)
        ∙ at_depth _ n o (x ++ (c ∷ r)) r (λ d small. begun_block (expression source d) (expression source (pred d)) (read_stmt source d) (read_piece source d) o (x ++ (c ∷ r)) r all h (reads_body inside d (length (x ++ (c ∷ r))) [] c r small hc (omega (arith, length-append x (c ∷ r))))) depth fits
    reads_stmt (if_alone t o c {open_part = p} {i = i} {j = j} {a = a} {b = b} {x = x} {y = y} ht ho test hc branch) = λ depth r fits closed.
        ap (λ (w : Tokens). read_stmt source depth (t ∷ o ∷ w)) (append_assoc x (c ∷ y) r)
        ∙ at_depth _ (max i j) t (o ∷ (x ++ (c ∷ (y ++ r)))) r (λ d small.
        begun_if (expression source d) (expression source (pred d)) (read_stmt source d) (read_piece source d) t o c a i b x (y ++ r) r ht ho (complete source d i a x (c ∷ (y ++ r)) test (omega arith) (mark_stops c m.CloseRound (y ++ r) hc (omega arith))) hc (reads_stmt branch d r (omega arith) (λ z. closed refl))
        ∙ no_else (read_stmt source d) t a b r (closed refl)) depth fits
    reads_stmt (if_else t o c u {open_part = p} {i = i} {j = j} {n = n} {a = a} {b = b} {d = e} {x = x} {y = y} {z = z} ht ho test hc branch hu other) = λ depth r fits closed.
        ap (λ (w : Tokens). read_stmt source depth (t ∷ o ∷ w)) (append_assoc x (c ∷ (y ++ u ∷ z)) r ∙ ap (λ (w : Tokens). x ++ (c ∷ w)) (append_assoc y (u ∷ z) r))
        ∙ at_depth _ (max i (max j n)) t (o ∷ (x ++ (c ∷ (y ++ (u ∷ (z ++ r)))))) r (λ d small.
        begun_if (expression source d) (expression source (pred d)) (read_stmt source d) (read_piece source d) t o c a i b x (y ++ (u ∷ (z ++ r))) (u ∷ (z ++ r)) ht ho
        (complete source d i a x (c ∷ (y ++ (u ∷ (z ++ r)))) test (omega arith) (mark_stops c m.CloseRound (y ++ (u ∷ (z ++ r))) hc (omega arith))) hc (reads_stmt branch d (u ∷ (z ++ r)) (omega arith) (λ bad. absurd (cc)))
        ∙ an_else (read_stmt source d) t u a b e (z ++ r) r hu (reads_stmt other d r (omega arith) closed)) depth fits
    reads_stmt (while t o c {open_part = p} {i = i} {j = j} {a = a} {b = b} {x = x} {y = y} ht ho test hc branch) = λ depth r fits closed.
        ap (λ (w : Tokens). read_stmt source depth (t ∷ o ∷ w)) (append_assoc x (c ∷ y) r)
        ∙ at_depth _ (max i j) t (o ∷ (x ++ (c ∷ (y ++ r)))) r (λ d small.
        begun_while (expression source d) (expression source (pred d)) (read_stmt source d) (read_piece source d) t o c a i b x (y ++ r) r ht ho (complete source d i a x (c ∷ (y ++ r)) test (omega arith) (mark_stops c m.CloseRound (y ++ r) hc (omega arith))) hc (reads_stmt branch d r (omega arith) closed)) depth fits
    reads_stmt (do_while t u o c e {open_part = p} {i = i} {j = j} {a = a} {b = b} {x = x} {y = y} ht branch hu ho test hc he) = λ depth r fits closed.
        ap (λ (w : Tokens). read_stmt source depth (t ∷ w)) (append_assoc x (u ∷ o ∷ (y ++ c ∷ e ∷ [])) r ∙ ap (λ (w : Tokens). x ++ (u ∷ o ∷ w)) (append_assoc y (c ∷ e ∷ []) r))
        ∙ at_depth _ (max i j) t (x ++ (u ∷ o ∷ (y ++ (c ∷ e ∷ r)))) r (λ d small.
        begun_do (expression source d) (expression source (pred d)) (read_stmt source d) (read_piece source d) t u o c e a j b (x ++ (u ∷ o ∷ (y ++ (c ∷ e ∷ r)))) (y ++ (c ∷ e ∷ r)) r ht (reads_stmt branch d (u ∷ o ∷ (y ++ (c ∷ e ∷ r))) (omega arith) (λ z. ap is_else hu)) hu ho
        (complete source d j a y (c ∷ e ∷ r) test (omega arith) (mark_stops c m.CloseRound (e ∷ r) hc (omega arith))) hc he) depth fits
    reads_stmt (for t o e c {open_part = p} {h = h} {i = i} {j = j} {n = n} {f = f} {test = a} {third = b} {b = loop} {v = v} {x = x} {y = y} {z = z} ht ho hf ha he hb hc branch) = λ depth r fits closed.
        ap (λ (w : Tokens). read_stmt source depth (t ∷ o ∷ w))
        (append_assoc v (x ++ e ∷ (y ++ c ∷ z)) r ∙ ap (λ (w : Tokens). v ++ w) (append_assoc x (e ∷ (y ++ c ∷ z)) r ∙ ap (λ (w : Tokens). x ++ (e ∷ w)) (append_assoc y (c ∷ z) r)))
        ∙ at_depth _ (max h (max i (max j n))) t (o ∷ (v ++ (x ++ (e ∷ (y ++ (c ∷ (z ++ r))))))) r (λ d small.
        begun_for (expression source d) (expression source (pred d)) (read_stmt source d) (read_piece source d) t o e c f a b i j loop (v ++ (x ++ (e ∷ (y ++ (c ∷ (z ++ r)))))) (x ++ (e ∷ (y ++ (c ∷ (z ++ r))))) (y ++ (c ∷ (z ++ r))) (z ++ r) r ht ho
        (reads_first_less d hf (x ++ (e ∷ (y ++ (c ∷ (z ++ r))))) (omega arith))
        (reads_maybe semicolon starts_semicolon d ha e (y ++ (c ∷ (z ++ r))) (omega arith) (ap semicolon he) (mark_stops e m.Semicolon (y ++ (c ∷ (z ++ r))) he (omega arith))) he
        (reads_maybe close_round starts_round d hb c (z ++ r) (omega arith) (ap close_round hc) (mark_stops c m.CloseRound (z ++ r) hc (omega arith))) hc (reads_stmt branch d r (omega arith) closed)) depth fits
    reads_stmt (break t e ht he) = λ depth r fits closed. at_depth _ 0 t (e ∷ r) r (λ d small. begun_break (expression source d) (expression source (pred d)) (read_stmt source d) (read_piece source d) t e r ht he) depth fits
    reads_stmt (continue t e ht he) = λ depth r fits closed. at_depth _ 0 t (e ∷ r) r (λ d small. begun_continue (expression source d) (expression source (pred d)) (read_stmt source d) (read_piece source d) t e r ht he) depth fits
    reads_stmt (return t e {n = n} {a = a} {x = x} ht ha he) = λ depth r fits closed.
        ap (λ (w : Tokens). read_stmt source depth (t ∷ w)) (append_assoc x (e ∷ []) r)
        ∙ at_depth _ n t (x ++ (e ∷ r)) r (λ d small. begun_return (expression source d) (expression source (pred d)) (read_stmt source d) (read_piece source d) t e a n (x ++ (e ∷ r)) r ht
        (reads_maybe semicolon starts_semicolon d ha e r small (ap semicolon he) (mark_stops e m.Semicolon r he (omega arith))) he) depth fits
    reads_stmt (spawn t o v c p l {i = i} {j = j} {n = n} {low = a} {high = b} {body = all} {x = x} {y = y} {z = z} ht ho low hv high hc hp inside hl) = λ depth r fits closed.
        ap (λ (w : Tokens). read_stmt source depth (t ∷ o ∷ w))
        (append_assoc x (v ∷ (y ++ c ∷ p ∷ (z ++ l ∷ []))) r ∙ ap (λ (w : Tokens). x ++ (v ∷ w)) (append_assoc y (c ∷ p ∷ (z ++ l ∷ [])) r ∙ ap (λ (w : Tokens). y ++ (c ∷ p ∷ w)) (append_assoc z (l ∷ []) r)))
        ∙ at_depth _ (max i (max j n)) t (o ∷ (x ++ (v ∷ (y ++ (c ∷ p ∷ (z ++ (l ∷ r))))))) r (λ d small.
        begun_spawn (expression source d) (expression source (pred d)) (read_stmt source d) (read_piece source d) t o v c p a b i j all (x ++ (v ∷ (y ++ (c ∷ p ∷ (z ++ (l ∷ r)))))) (y ++ (c ∷ p ∷ (z ++ (l ∷ r)))) (z ++ (l ∷ r)) r ht ho
        (complete source d i a x (v ∷ (y ++ (c ∷ p ∷ (z ++ (l ∷ r))))) low (omega arith) (mark_stops v m.Comma (y ++ (c ∷ p ∷ (z ++ (l ∷ r)))) hv (omega arith))) hv
        (complete source d j b y (c ∷ p ∷ (z ++ (l ∷ r))) high (omega arith) (mark_stops c m.CloseRound (p ∷ (z ++ (l ∷ r))) hc (omega arith))) hc hp (reads_body inside d (length (z ++ (l ∷ r))) [] l r (omega arith) hl (omega (arith, length-append z (l ∷ r))))) depth fits
    reads_stmt (ps t o a v b c e ht ho ha hv hb hc he) = λ depth r fits closed.
        at_depth _ 0 t (o ∷ a ∷ v ∷ b ∷ c ∷ e ∷ r) r (λ d small. begun_ps (expression source d) (expression source (pred d)) (read_stmt source d) (read_piece source d) t o a v b c e r ht ho ha hv hb hc he) depth fits
    reads_stmt (psm t o a v c e {n = n} {place = place} {x = x} ht ho ha hv spelled hc he) = λ depth r fits closed.
        ap (λ (w : Tokens). read_stmt source depth (t ∷ o ∷ a ∷ v ∷ w)) (append_assoc x (c ∷ e ∷ []) r)
        ∙ at_depth _ n t (o ∷ a ∷ v ∷ (x ++ (c ∷ e ∷ r))) r (λ d small. begun_psm (expression source d) (expression source (pred d)) (read_stmt source d) (read_piece source d) t o a v c e place n (x ++ (c ∷ e ∷ r)) r ht ho ha hv
        (complete_place source d spelled (c ∷ e ∷ r) small (mark_stops c m.CloseRound (e ∷ r) hc (omega arith))) hc he) depth fits
    reads_stmt (print t o a c e {n = n} {all = all} {x = x} ht ho ha list hc he) = λ depth r fits closed.
        ap (λ (w : Tokens). read_stmt source depth (t ∷ o ∷ a ∷ w)) (append_assoc x (c ∷ e ∷ []) r)
        ∙ at_depth _ n t (o ∷ a ∷ (x ++ (c ∷ e ∷ r))) r (λ d small. begun_print (expression source d) (expression source (pred d)) (read_stmt source d) (read_piece source d) t o a c e all n (x ++ (c ∷ e ∷ r)) r ht ho ha (reads_behind d list c (e ∷ r) small hc) hc he) depth fits

  pub whole_body : {n : ℕ} {all : List RawStmt} {x : Tokens} → SpellsBody source n all x → (depth : ℕ) (c : Token) (r : Tokens) → n ≤ depth → Is c m.CloseCurly → read_body (read_piece source depth) (x ++ (c ∷ r)) ≡ got all 0 r
  whole_body {x = x} spelled depth c r fits h = reads_body spelled depth (length (x ++ (c ∷ r))) [] c r fits h (omega (arith, length-append x (c ∷ r)))
