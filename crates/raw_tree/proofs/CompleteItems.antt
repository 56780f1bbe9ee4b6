-- Whatever item is spelled is read, and nothing else stands in its place.
use Rattle.std.proofs.Common.{◌≡◌, ℕ, zero, suc, max, ◌<◌, ◌≤◌, Bool, true, false, cond, List, [], ◌∷◌, ◌++◌, length, length-append, append_assoc, append-nil, Option, Some, None, bytes_eq, codes, refl, sym, ap, subst, ◌∙◌, arith}
use Rattle.xmt_base.specs.declared.Place.{Place}
use Rattle.xmt_lex.specs.declared.Token.{Token}
use Rattle.xmt_lex.specs.declared.TokenKind.{TokenKind}
use Rattle.xmt_lex.specs.declared.TokenKind.TheVariants as kind
use Rattle.xmt_lex.specs.declared.kinds.Keyword.TheVariants as k
use Rattle.xmt_lex.specs.declared.kinds.Mark.{Mark}
use Rattle.xmt_lex.specs.declared.kinds.Mark.TheVariants as m
use Rattle.raw_tree.specs.declared.tree.Qualifier.{Qualifier}
use Rattle.raw_tree.specs.declared.tree.RawName.{RawName}
use Rattle.raw_tree.specs.declared.tree.RawExpr.{RawExpr}
use Rattle.raw_tree.specs.declared.tree.RawType.{RawType}
use Rattle.raw_tree.specs.declared.tree.RawStmt.{RawStmt}
use Rattle.raw_tree.specs.declared.tree.RawValues.{RawValues}
use Rattle.raw_tree.specs.declared.tree.RawGlobal.{RawGlobal}
use Rattle.raw_tree.specs.declared.tree.RawGlobal.TheVariants as global
use Rattle.raw_tree.specs.declared.tree.RawRegister.{RawRegister}
use Rattle.raw_tree.specs.declared.tree.RawResult.{RawResult}
use Rattle.raw_tree.specs.declared.tree.RawResult.TheVariants as result
use Rattle.raw_tree.specs.declared.tree.RawParam.{RawParam}
use Rattle.raw_tree.specs.declared.tree.RawParams.{RawParams}
use Rattle.raw_tree.specs.declared.tree.RawParams.TheVariants as params
use Rattle.raw_tree.specs.declared.tree.RawItem.{RawItem}
use Rattle.raw_tree.specs.declared.tree.RawItemKind.TheVariants as i
use Rattle.raw_tree.specs.Level.{Tokens, Level, Cond, Stops, joins, Parted, last_one, more_ones, bytes_of}
use Rattle.raw_tree.specs.Grammar.{name_of, Spells}
use Rattle.raw_tree.specs.Statements.{Key, Is, IsName, SpellsWords, done, const, volatile, SpellsType, words, SpellsOpening, no_value, a_value}
use Rattle.raw_tree.specs.Items.{item, SpellsConds, last_cond, comma_behind, more_conds, SpellsArray, in_curly, SpellsValuesOf, no_values, some_values, SpellsGlobal, scalar, array, array_of_values, SpellsRegister, register, SpellsResult, int, void, main, SpellsParam, with_name, without_name, SpellsParams, nothing_between, void_between, params_between, SpellsItem, globals, registers, int_registers, function, proto, SpellsItems, last_item, more_items}
use Rattle.raw_tree.specs.Reading.{Got, ReaderOf, Reader, got, past, open_round, close_round, open_square, close_square, read_parted, readers}
use Rattle.raw_tree.specs.ReadingStatements.{after, open_curly, close_curly, is_name, begins_type, read_type, read_opening, read_body, read_piece}
use Rattle.raw_tree.specs.ReadingItems.{values, values_of, read_array, values_at, read_values_of, read_global, read_globals, read_register, is_int, registers_of, read_registers, param_at, read_param, is_void, read_params, has_name, have_names, all_named, read_function, read_headed, read_typed, begins_round, is_head, begun_item, item_of, read_item, items, items_step, read_items}
use Rattle.raw_tree.proofs.Parted.{got_same, complete_list}
use Rattle.raw_tree.proofs.Complete.{starts, Begins, begins, goes_behind, complete_cond}
use Rattle.raw_tree.proofs.CompleteStatements.{no_equal, mark_stops, starts_curly, reads_type, type_begins, reads_opening, stops_comma, ends_semicolon, ends_round, whole_body}

not_square : (q : TokenKind) → 13 < joins q → open_square q ≡ false
not_square (kind.Mark m.OpenSquare) h = absurd (omega (arith, h))
not_square _ h = refl

no_square : (r : Tokens) → Stops 13 r → past open_square r ≡ None
no_square [] h = refl
no_square (t ∷ ts) h = rw (not_square t.kind h)

starts_square : (q : TokenKind) → starts q ≡ true → close_square q ≡ false
starts_square (kind.Mark m.CloseSquare) h = absurd (cc)
starts_square _ h = refl

square_not : (t : Token) (ts : Tokens) → close_square t.kind ≡ false → past close_square (t ∷ ts) ≡ None
square_not t ts h = rw h

no_close_square : (x r : Tokens) → Begins x → past close_square (x ++ r) ≡ None
no_close_square x r (t, y, is, h) = subst (λ (z : Tokens). past close_square (z ++ r) ≡ None) (sym is) (square_not t (y ++ r) (starts_square t.kind h))

type_round : (q : TokenKind) → begins_type q ≡ true → close_round q ≡ false
type_round (kind.Mark m.CloseRound) h = absurd (cc)
type_round _ h = refl

type_void : (q : TokenKind) → begins_type q ≡ true → is_void q ≡ false
type_void (kind.Keyword k.Void) h = absurd (cc)
type_void _ h = refl

when_false : {A : Type 0} (b : Bool) (x y : A) → b ≡ false → cond b x y ≡ y
when_false true x y h = absurd (cc)
when_false false x y h = refl

when_true : {A : Type 0} (b : Bool) (x y : A) → b ≡ true → cond b x y ≡ x
when_true true x y h = refl
when_true false x y h = absurd (cc)

abbrev NoName : Tokens → Type 0
NoName [] = Unit {0}
NoName (t ∷ ts) = is_name t.kind ≡ false

round_not : (e : Token) (mark : Mark) (ts : Tokens) → Is e mark → open_round (kind.Mark mark) ≡ false → begins_round (e ∷ ts) ≡ false
round_not e mark ts h other = ap open_round h ∙ other

module _ (source : List ℕ) (depth : ℕ) where
  abbrev constant : Reader
  constant = (readers source depth).of_cond

  -- ---- globals

  scalar_read : (cond : Reader) (t : Token) (v : Option RawExpr) (n : ℕ) (ts r : Tokens) → IsName t → past open_square ts ≡ None → read_opening cond ts ≡ got v n r → read_global source cond (t ∷ ts) ≡ got (global.Scalar (name_of source t) v) n r
  scalar_read cond t v n ts r h none found = rw (h, none, found)

  square_not_equal : (e : Token) (ts : Tokens) → Is e m.Equal → past open_square (e ∷ ts) ≡ None
  square_not_equal e ts h = rw h

  opening_no_square : {n : ℕ} {v : Option RawExpr} {x : Tokens} → SpellsOpening source Cond n v x → (r : Tokens) → Stops 13 r → past open_square (x ++ r) ≡ None
  opening_no_square no_value r stops = no_square r stops
  opening_no_square (a_value e {x = x} h spelled) r stops = square_not_equal e (x ++ r) h

  values_last : (cond : Reader) (turns : ℕ) (at : Place) (front : List RawExpr) (base n : ℕ) (a : RawExpr) (c : Token) (ts r : Tokens) → cond ts ≡ got a n (c ∷ r) → Is c m.CloseCurly →
      values cond turns at front base ts ≡ got (record { at = at; values = front ++ a ∷ []; comma = false }) (max base n) r
  unfolding values
  values_last cond zero at front base n a c ts r found h = rw (found, h)
  values_last cond (suc f) at front base n a c ts r found h = rw (found, h)

  values_comma : (cond : Reader) (turns : ℕ) (at : Place) (front : List RawExpr) (base n : ℕ) (a : RawExpr) (t c : Token) (ts r : Tokens) → cond ts ≡ got a n (t ∷ c ∷ r) → Is t m.Comma → Is c m.CloseCurly →
      values cond turns at front base ts ≡ got (record { at = at; values = front ++ a ∷ []; comma = true }) (max base n) r
  unfolding values
  values_comma cond zero at front base n a t c ts r found k h = rw (found, k, h)
  values_comma cond (suc f) at front base n a t c ts r found k h = rw (found, k, h)

  values_more : (cond : Reader) (f : ℕ) (at : Place) (front : List RawExpr) (base n : ℕ) (a : RawExpr) (t u : Token) (ts ws : Tokens) → cond ts ≡ got a n (t ∷ u ∷ ws) → Is t m.Comma → close_curly u.kind ≡ false →
      values cond (suc f) at front base ts ≡ values cond f at (front ++ a ∷ []) (max base n) (u ∷ ws)
  unfolding values
  values_more cond f at front base n a t u ts ws found k other = rw (found, k, other)

  conds_begin : {comma : Bool} {n : ℕ} {all : List RawExpr} {x : Tokens} → SpellsConds source comma n all x → Begins x
  conds_begin (last_cond h) = begins source h
  conds_begin (comma_behind t {x = x} h k) = goes_behind x (t ∷ []) (begins source h)
  conds_begin (more_conds t {x = x} {y = y} h k rest) = goes_behind x (t ∷ y) (begins source h)

  values_more_at : (cond : Reader) (f : ℕ) (at : Place) (front : List RawExpr) (base n : ℕ) (a : RawExpr) (t : Token) (ts y w : Tokens) → Begins y → cond ts ≡ got a n (t ∷ (y ++ w)) → Is t m.Comma →
      values cond (suc f) at front base ts ≡ values cond f at (front ++ a ∷ []) (max base n) (y ++ w)
  values_more_at cond f at front base n a t ts y w (u, z, is, h) found k =
      values_more cond f at front base n a t u ts (z ++ w) (subst (λ (v : Tokens). cond ts ≡ got a n (t ∷ (v ++ w))) is found) k (starts_curly u.kind h)
      ∙ ap (λ (v : Tokens). values cond f at (front ++ a ∷ []) (max base n) (v ++ w)) (sym is)

  reads_values : {comma : Bool} {n : ℕ} {all : List RawExpr} {x : Tokens} → SpellsConds source comma n all x → (turns : ℕ) (at : Place) (front : List RawExpr) (base : ℕ) (c : Token) (r : Tokens) → length x ≤ turns → n ≤ depth → Is c m.CloseCurly →
      values constant turns at front base (x ++ (c ∷ r)) ≡ got (record { at = at; values = front ++ all; comma = comma }) (max base n) r
  reads_values (last_cond {n = n} {a = a} {x = x} h) turns at front base c r long fits hc =
      values_last constant turns at front base n a c (x ++ (c ∷ r)) r (complete_cond source depth n a x (c ∷ r) h fits (mark_stops c m.CloseCurly r hc (omega arith))) hc
  reads_values (comma_behind t {n = n} {a = a} {x = x} h k) turns at front base c r long fits hc =
      ap (values constant turns at front base) (append_assoc x (t ∷ []) (c ∷ r))
      ∙ values_comma constant turns at front base n a t c (x ++ (t ∷ c ∷ r)) r (complete_cond source depth n a x (t ∷ c ∷ r) h fits (mark_stops t m.Comma (c ∷ r) k (omega arith))) k hc
  reads_values (more_conds t {comma = b} {h = n} {j = j} {a = a} {rest = rest} {x = x} {y = y} h k others) zero at front base c r long fits hc = absurd (omega (arith, length-append x (t ∷ y), long))
  reads_values (more_conds t {comma = b} {h = n} {j = j} {a = a} {rest = rest} {x = x} {y = y} h k others) (suc f) at front base c r long fits hc =
      ap (values constant (suc f) at front base) (append_assoc x (t ∷ y) (c ∷ r))
      ∙ values_more_at constant f at front base n a t (x ++ (t ∷ (y ++ (c ∷ r)))) y (c ∷ r) (conds_begin others)
      (complete_cond source depth n a x (t ∷ (y ++ (c ∷ r))) h (omega arith) (mark_stops t m.Comma (y ++ (c ∷ r)) k (omega arith))) k
      ∙ reads_values others f at (front ++ a ∷ []) (max base n) c r (omega (arith, length-append x (t ∷ y), long)) (omega arith) hc
      ∙ ap (λ (z : List RawExpr). got (record { at = at; values = z; comma = b }) (max (max base n) j) r) (append_assoc front (a ∷ []) rest)
      ∙ got_same _ _ (max (max base n) j) (max base (max n j)) r refl (omega arith)

  array_begun : (cond : Reader) (o : Token) (ts r : Tokens) (all : RawValues) (n : ℕ) → Is o m.OpenCurly → values_of cond o.place ts ≡ got all n r → read_array cond (o ∷ ts) ≡ got all n r
  array_begun cond o ts r all n h found = when_true (open_curly o.kind) (values_of cond o.place ts) None (ap open_curly h) ∙ found

  reads_array : {n : ℕ} {all : RawValues} {x : Tokens} → SpellsArray source n all x → (r : Tokens) → n ≤ depth → read_array constant (x ++ r) ≡ got all n r
  reads_array (in_curly o c {comma = b} {n = n} {all = all} {x = x} ho h hc) r fits =
      ap (λ (w : Tokens). read_array constant (o ∷ w)) (append_assoc x (c ∷ []) r)
      ∙ array_begun constant o (x ++ (c ∷ r)) r (record { at = o.place; values = all; comma = b }) n ho
      (reads_values h (length (x ++ (c ∷ r))) o.place [] 0 c r (omega (arith, length-append x (c ∷ r))) fits hc ∙ got_same _ _ (max 0 n) n r refl (omega arith))

  values_some : (cond : Reader) (e : Token) (ts r : Tokens) (all : RawValues) (n : ℕ) → Is e m.Equal → read_array cond ts ≡ got all n r → read_values_of cond (e ∷ ts) ≡ got (Some all) n r
  values_some cond e ts r all n h found = rw h (ap (λ (o : Option (Got RawValues)). after o (λ g. got (Some g.tree) g.nest g.rest)) found)

  reads_values_of : {n : ℕ} {all : Option RawValues} {x : Tokens} → SpellsValuesOf source n all x → (r : Tokens) → n ≤ depth → Stops 13 r → read_values_of constant (x ++ r) ≡ got all n r
  reads_values_of no_values r fits stops = ap (values_at constant r) (no_equal r stops)
  reads_values_of (some_values e {n = n} {all = all} {x = x} h spelled) r fits stops = values_some constant e (x ++ r) r all n h (reads_array spelled r fits)

  sized_read : (cond : Reader) (t o c : Token) (a : RawExpr) (h n : ℕ) (all : Option RawValues) (us ws r : Tokens) → IsName t → Is o m.OpenSquare → past close_square us ≡ None → cond us ≡ got a h (c ∷ ws) → Is c m.CloseSquare → read_values_of cond ws ≡ got all n r →
      read_global source cond (t ∷ o ∷ us) ≡ got (global.Array (name_of source t) a all) (max h n) r
  sized_read cond t o c a h n all us ws r ht ho none found hc vals = rw (ht, ho, none, found, hc) (ap (λ (g : Option (Got (Option RawValues))). after g (λ v. got (global.Array (name_of source t) a v.tree) (max h v.nest) v.rest)) vals)

  open_read : (cond : Reader) (t o c e : Token) (all : RawValues) (n : ℕ) (ws r : Tokens) → IsName t → Is o m.OpenSquare → Is c m.CloseSquare → Is e m.Equal → read_array cond ws ≡ got all n r →
      read_global source cond (t ∷ o ∷ c ∷ e ∷ ws) ≡ got (global.Open (name_of source t) all) n r
  open_read cond t o c e all n ws r ht ho hc he found = rw (ht, ho, hc, he) (ap (λ (g : Option (Got RawValues)). after g (λ v. got (global.Open (name_of source t) v.tree) v.nest v.rest)) found)

  abbrev Each : Level → Type 0
  Each l = (n : ℕ) (a : RawExpr) (x r : Tokens) → Spells source n l a x → n ≤ depth → Stops 13 r → constant (x ++ r) ≡ got a n r

  each_constant : Each Cond
  each_constant n a x r spelled fits stops = complete_cond source depth n a x r spelled fits stops

  reads_global : {n : ℕ} {g : RawGlobal} {x : Tokens} → SpellsGlobal source n g x → (r : Tokens) → n ≤ depth → Stops 13 r → read_global source constant (x ++ r) ≡ got g n r
  reads_global (scalar t {n = i} {opening = v} {x = y} h opening) r fits stops =
      scalar_read constant t v i (y ++ r) r h (opening_no_square opening r stops) (reads_opening source depth Cond constant each_constant opening r fits stops)
  reads_global (array t o c {h = h} {n = i} {length = len} {all = all} {x = y} {y = z} ht ho hlen hc hv) r fits stops =
      ap (λ (w : Tokens). read_global source constant (t ∷ o ∷ w)) (append_assoc y (c ∷ z) r)
      ∙ sized_read constant t o c len h i all (y ++ (c ∷ (z ++ r))) (z ++ r) r ht ho (no_close_square y (c ∷ (z ++ r)) (begins source hlen))
      (complete_cond source depth h len y (c ∷ (z ++ r)) hlen (omega (arith, fits)) (mark_stops c m.CloseSquare (z ++ r) hc (omega arith))) hc (reads_values_of hv r (omega (arith, fits)) stops)
  reads_global (array_of_values t o c e {n = i} {all = all} {x = y} ht ho hc he spelled) r fits stops = open_read constant t o c e all i (y ++ r) r ht ho hc he (reads_array spelled r fits)

  -- ---- registers

  register_read : (cond : Reader) (t : Token) (v : Option RawExpr) (n : ℕ) (ts r : Tokens) → IsName t → read_opening cond ts ≡ got v n r → read_register source cond (t ∷ ts) ≡ got (record { name = name_of source t; value = v }) n r
  register_read cond t v n ts r h found = rw (h, found)

  reads_register : {n : ℕ} {g : RawRegister} {x : Tokens} → SpellsRegister source n g x → (r : Tokens) → n ≤ depth → Stops 13 r → read_register source constant (x ++ r) ≡ got g n r
  reads_register (register t {n = i} {opening = v} {x = y} h opening) r fits stops =
      register_read constant t v i (y ++ r) r h (reads_opening source depth Cond constant each_constant opening r fits stops)

  registers_done : (cond : Reader) (at : Place) (b : Bool) (all : List RawRegister) (n : ℕ) (e : Token) (ts r : Tokens) → read_parted (read_register source cond) ts ≡ got all n (e ∷ r) → Is e m.Semicolon → registers_of source cond at b ts ≡ got (item at (i.Registers b all)) 0 r
  registers_done cond at b all n e ts r found h = rw (found, h)

  register_list : {n : ℕ} {all : List RawRegister} {x : Tokens} → Parted RawRegister (SpellsRegister source) n all x → (e : Token) (r : Tokens) → n ≤ depth → Is e m.Semicolon → read_parted (read_register source constant) (x ++ (e ∷ r)) ≡ got all n (e ∷ r)
  register_list list e r fits h =
      complete_list RawRegister (SpellsRegister source) (read_register source constant) depth (Stops 13) (λ j a z w spelled small stop. reads_register spelled w small stop) (stops_comma source) list (e ∷ r) fits (mark_stops e m.Semicolon r h (omega arith)) (ends_semicolon source e r h)

  one_register_begins : {n : ℕ} {g : RawRegister} {x : Tokens} → SpellsRegister source n g x → (w : Tokens) → past is_int (x ++ w) ≡ None
  one_register_begins (register t {x = x} h opening) w = no_int t (x ++ w) h
    where
      no_int : (t : Token) (ts : Tokens) → IsName t → past is_int (t ∷ ts) ≡ None
      no_int t ts h = rw h

  registers_begin : {n : ℕ} {all : List RawRegister} {x : Tokens} → Parted RawRegister (SpellsRegister source) n all x → (w : Tokens) → past is_int (x ++ w) ≡ None
  registers_begin (last_one h) w = one_register_begins h w
  registers_begin (more_ones u {x = x} {y = y} h k rest) w = ap (past is_int) (append_assoc x (u ∷ y) w) ∙ one_register_begins h (u ∷ (y ++ w))

  begun_registers : (cond : Reader) (stmt : ReaderOf RawStmt) (t : Token) (ts : Tokens) → Key t k.PsBaseReg → begun_item source cond stmt t t.kind ts ≡ read_registers source cond t.place ts
  begun_registers cond stmt t ts h = ap (λ (q : TokenKind). begun_item source cond stmt t q ts) h

  plain_registers : (cond : Reader) (at : Place) (ts : Tokens) → past is_int ts ≡ None → read_registers source cond at ts ≡ registers_of source cond at false ts
  plain_registers cond at ts h = rw h

  int_read : (cond : Reader) (at : Place) (u : Token) (ts : Tokens) → Key u k.Int → read_registers source cond at (u ∷ ts) ≡ registers_of source cond at true ts
  int_read cond at u ts h = rw h

  -- ---- lists of globals

  global_no_head : {n : ℕ} {g : RawGlobal} {x : Tokens} → SpellsGlobal source n g x → (w : Tokens) → begins_round w ≡ false → is_head (x ++ w) ≡ false
  global_no_head (scalar t h no_value) w other = other
  global_no_head (scalar t h (a_value e {x = x} he spelled)) w other = round_not e m.Equal (x ++ w) he refl
  global_no_head (array t o c {x = x} {y = y} ht ho hlen hc hv) w other = round_not o m.OpenSquare ((x ++ c ∷ y) ++ w) ho refl
  global_no_head (array_of_values t o c e {x = x} ht ho hc he spelled) w other = round_not o m.OpenSquare (c ∷ e ∷ (x ++ w)) ho refl

  globals_no_head : {n : ℕ} {all : List RawGlobal} {x : Tokens} → Parted RawGlobal (SpellsGlobal source) n all x → (e : Token) (r : Tokens) → Is e m.Semicolon → is_head (x ++ (e ∷ r)) ≡ false
  globals_no_head (last_one h) e r he = global_no_head h (e ∷ r) (round_not e m.Semicolon r he refl)
  globals_no_head (more_ones t {x = x} {y = y} h k rest) e r he = ap is_head (append_assoc x (t ∷ y) (e ∷ r)) ∙ global_no_head h (t ∷ (y ++ (e ∷ r))) (round_not t m.Comma (y ++ (e ∷ r)) k refl)

  globals_done : (cond : Reader) (ty : RawType) (all : List RawGlobal) (n : ℕ) (e : Token) (ts us r : Tokens) → read_type ts ≡ got ty 0 us → read_parted (read_global source cond) us ≡ got all n (e ∷ r) → Is e m.Semicolon →
      read_globals source cond ts ≡ got (item ty.at (i.Globals ty all)) 0 r
  globals_done cond ty all n e ts us r types found h = rw (types, found, h)

  item_int : (cond : Reader) (stmt : ReaderOf RawStmt) (t : Token) (ts : Tokens) → Key t k.Int → is_head ts ≡ false → begun_item source cond stmt t t.kind ts ≡ read_globals source cond (t ∷ ts)
  item_int cond stmt t ts h other = ap (λ (q : TokenKind). begun_item source cond stmt t q ts) h ∙ when_false (is_head ts) (read_typed source stmt t.place (λ name. result.Int name) ts) (read_globals source cond (t ∷ ts)) other

  words_item : (cond : Reader) (stmt : ReaderOf RawStmt) {ws : List Qualifier} {x : Tokens} → SpellsWords ws x → (w : Tokens) → is_head w ≡ false → item_of source cond stmt (x ++ w) ≡ read_globals source cond (x ++ w)
  words_item cond stmt (done t h) w other = item_int cond stmt t w h other
  words_item cond stmt (const t {x = x} h rest) w other = ap (λ (q : TokenKind). begun_item source cond stmt t q (x ++ w)) h
  words_item cond stmt (volatile t {x = x} h rest) w other = ap (λ (q : TokenKind). begun_item source cond stmt t q (x ++ w)) h

  type_item : (cond : Reader) (stmt : ReaderOf RawStmt) {ty : RawType} {x : Tokens} → SpellsType ty x → (w : Tokens) → is_head w ≡ false → item_of source cond stmt (x ++ w) ≡ read_globals source cond (x ++ w)
  type_item cond stmt (words t h) w other = words_item cond stmt h w other

  -- ---- functions and prototypes

  param_named : (ty : RawType) (t : Token) (ts r : Tokens) → read_type ts ≡ got ty 0 (t ∷ r) → IsName t → read_param source ts ≡ got (record { ty = ty; name = Some (name_of source t) }) 0 r
  param_named ty t ts r types h = rw (types, h)

  no_name : (g : Got RawParam) (r : Tokens) → NoName r → param_at source g r ≡ Some g
  no_name g [] h = refl
  no_name g (t ∷ ts) h = rw h

  param_bare : (ty : RawType) (ts r : Tokens) → read_type ts ≡ got ty 0 r → NoName r → read_param source ts ≡ got (record { ty = ty; name = None }) 0 r
  param_bare ty ts r types h =
      ap (λ (o : Option (Got RawType)). after o (λ g. param_at source (record { tree = record { ty = g.tree; name = None }; nest = 0; rest = g.rest }) g.rest)) types ∙ no_name _ r h

  reads_param : (named : Bool) {n : ℕ} {p : RawParam} {x : Tokens} → SpellsParam source named n p x → (r : Tokens) → NoName r → read_param source (x ++ r) ≡ got p n r
  reads_param named (with_name t {ty = ty} {x = x} types h) r stops = ap (read_param source) (append_assoc x (t ∷ []) r) ∙ param_named ty t (x ++ (t ∷ r)) r (reads_type types (t ∷ r)) h
  reads_param named (without_name {ty = ty} {x = x} loose types) r stops = param_bare ty (x ++ r) r (reads_type types r) stops

  comma_no_name : (t : Token) (ts : Tokens) → t.kind ≡ kind.Mark m.Comma → NoName (t ∷ ts)
  comma_no_name t ts h = rw h

  round_no_name : (t : Token) (ts : Tokens) → Is t m.CloseRound → NoName (t ∷ ts)
  round_no_name t ts h = rw h

  params_none : (c : Token) (r : Tokens) → Is c m.CloseRound → read_params source (c ∷ r) ≡ got params.Nothing 0 (c ∷ r)
  params_none c r h = rw h

  params_void : (t : Token) (ts : Tokens) → Key t k.Void → read_params source (t ∷ ts) ≡ got params.Void 0 ts
  params_void t ts h = rw h

  params_list : (t : Token) (ts r : Tokens) (all : List RawParam) (n : ℕ) → begins_type t.kind ≡ true → read_parted (read_param source) (t ∷ ts) ≡ got all n r → read_params source (t ∷ ts) ≡ got (params.Some all) 0 r
  params_list t ts r all n h found = rw (type_round t.kind h, type_void t.kind h) (ap (λ (o : Option (Got (List RawParam))). after o (λ g. got (params.Some g.tree) 0 g.rest)) found)

  param_begins : (named : Bool) {n : ℕ} {p : RawParam} {x : Tokens} → SpellsParam source named n p x → (t : Token) × (y : Tokens) × (x ≡ t ∷ y) × (begins_type t.kind ≡ true)
  param_begins named (with_name t {x = x} types h) = let (u, y, is, b) = type_begins types in (u, y ++ t ∷ [], ap (λ (w : Tokens). w ++ t ∷ []) is, b)
  param_begins named (without_name loose types) = type_begins types

  params_begin : (named : Bool) {n : ℕ} {all : List RawParam} {x : Tokens} → Parted RawParam (SpellsParam source named) n all x → (t : Token) × (y : Tokens) × (x ≡ t ∷ y) × (begins_type t.kind ≡ true)
  params_begin named (last_one h) = param_begins named h
  params_begin named (more_ones t {y = z} h k rest) = let (u, y, is, b) = param_begins named h in (u, y ++ t ∷ z, ap (λ (w : Tokens). w ++ t ∷ z) is, b)

  reads_params : (named : Bool) {all : RawParams} {x : Tokens} → SpellsParams source named all x → (c : Token) (r : Tokens) → Is c m.CloseRound → read_params source (x ++ (c ∷ r)) ≡ got all 0 (c ∷ r)
  reads_params named nothing_between c r h = params_none c r h
  reads_params named (void_between t k) c r h = params_void t (c ∷ r) k
  reads_params named (params_between {n = n} {all = all} {x = x} list) c r h =
      let (t, y, is, b) = params_begin named list in
      subst (λ (z : Tokens). read_params source (z ++ (c ∷ r)) ≡ got (params.Some all) 0 (c ∷ r)) (sym is)
      (params_list t (y ++ (c ∷ r)) (c ∷ r) all n b (subst (λ (z : Tokens). read_parted (read_param source) (z ++ (c ∷ r)) ≡ got all n (c ∷ r)) is
      (complete_list RawParam (SpellsParam source named) (read_param source) n NoName (λ j a z w spelled small stop. reads_param named spelled w stop) comma_no_name list (c ∷ r) (omega arith) (round_no_name c r h) (ends_round source c r h))))

  param_has_name : {n : ℕ} {p : RawParam} {x : Tokens} → SpellsParam source true n p x → has_name p ≡ true
  param_has_name (with_name t types h) = refl
  param_has_name (without_name loose types) = absurd (cc)

  list_named : {n : ℕ} {all : List RawParam} {x : Tokens} → Parted RawParam (SpellsParam source true) n all x → have_names all ≡ true
  list_named (last_one h) = rw (param_has_name h)
  list_named (more_ones t h k rest) = rw (param_has_name h) (list_named rest)

  params_named : {all : RawParams} {x : Tokens} → SpellsParams source true all x → all_named all ≡ true
  params_named nothing_between = refl
  params_named (void_between t k) = refl
  params_named (params_between list) = list_named list

  headed_proto : (stmt : ReaderOf RawStmt) (at : Place) (head : RawResult) (all : RawParams) (o c e : Token) (ts r : Tokens) → Is o m.OpenRound → read_params source ts ≡ got all 0 (c ∷ e ∷ r) → Is c m.CloseRound → Is e m.Semicolon →
      read_headed source stmt at head (o ∷ ts) ≡ got (item at (i.Proto head all)) 0 r
  headed_proto stmt at head all o c e ts r ho found hc he = rw (ho, found, hc, he)

  function_read : (stmt : ReaderOf RawStmt) (at : Place) (head : RawResult) (all : RawParams) (body : List RawStmt) (p : Token) (ts r : Tokens) → all_named all ≡ true → Is p m.OpenCurly → read_body stmt ts ≡ got body 0 r →
      read_function stmt at head all (p ∷ ts) ≡ got (item at (i.Function head all body)) 0 r
  function_read stmt at head all body p ts r named hp found = rw (named, hp) (ap (λ (o : Option (Got (List RawStmt))). after o (λ c. got (item at (i.Function head all c.tree)) 0 c.rest)) found)

  headed_function : (stmt : ReaderOf RawStmt) (at : Place) (head : RawResult) (all : RawParams) (o c p : Token) (ts ws : Tokens) → Is o m.OpenRound → read_params source ts ≡ got all 0 (c ∷ p ∷ ws) → Is c m.CloseRound → Is p m.OpenCurly →
      read_headed source stmt at head (o ∷ ts) ≡ read_function stmt at head all (p ∷ ws)
  headed_function stmt at head all o c p ts ws ho found hc hp = rw (ho, found, hc, hp)

  typed_int : (cond : Reader) (stmt : ReaderOf RawStmt) (t u o : Token) (ts : Tokens) → Key t k.Int → IsName u → Is o m.OpenRound → begun_item source cond stmt t t.kind (u ∷ o ∷ ts) ≡ read_headed source stmt t.place (result.Int (name_of source u)) (o ∷ ts)
  typed_int cond stmt t u o ts ht hu ho =
      ap (λ (q : TokenKind). begun_item source cond stmt t q (u ∷ o ∷ ts)) ht
      ∙ when_true (is_head (u ∷ o ∷ ts)) (read_typed source stmt t.place (λ name. result.Int name) (u ∷ o ∷ ts)) (read_globals source cond (t ∷ u ∷ o ∷ ts)) (ap open_round ho)
      ∙ typed_name stmt t.place (λ name. result.Int name) u (o ∷ ts) hu
    where
      typed_name : (stmt : ReaderOf RawStmt) (at : Place) (made : RawName → RawResult) (u : Token) (ts : Tokens) → IsName u → read_typed source stmt at made (u ∷ ts) ≡ read_headed source stmt at (made (name_of source u)) ts
      typed_name stmt at made u ts h = rw h

  typed_void : (cond : Reader) (stmt : ReaderOf RawStmt) (t u : Token) (ts : Tokens) → Key t k.Void → IsName u → begun_item source cond stmt t t.kind (u ∷ ts) ≡ read_headed source stmt t.place (result.Void (name_of source u)) ts
  typed_void cond stmt t u ts ht hu = ap (λ (q : TokenKind). begun_item source cond stmt t q (u ∷ ts)) ht ∙ typed_name stmt t.place (λ name. result.Void name) u ts hu
    where
      typed_name : (stmt : ReaderOf RawStmt) (at : Place) (made : RawName → RawResult) (u : Token) (ts : Tokens) → IsName u → read_typed source stmt at made (u ∷ ts) ≡ read_headed source stmt at (made (name_of source u)) ts
      typed_name stmt at made u ts h = rw h

  bytes_same : (a b : List ℕ) → a ≡ b → bytes_eq b b ≡ true → bytes_eq a b ≡ true
  bytes_same a b is h = ap (λ (z : List ℕ). bytes_eq z b) is ∙ h

  main_read : (cond : Reader) (stmt : ReaderOf RawStmt) (t : Token) (ts : Tokens) → IsName t → bytes_of source t ≡ codes "main" → begun_item source cond stmt t t.kind ts ≡ read_headed source stmt t.place (result.Main (name_of source t)) ts
  main_read cond stmt t ts ht h =
      ap (λ (q : TokenKind). begun_item source cond stmt t q ts) ht
      ∙ when_true (bytes_eq (bytes_of source t) (codes "main")) (read_headed source stmt t.place (result.Main (name_of source t)) ts) None (bytes_same (bytes_of source t) (codes "main") h refl)

  reads_head : (cond : Reader) (stmt : ReaderOf RawStmt) {head : RawResult} {at : Place} {x : Tokens} → SpellsResult source head at x → (o : Token) (ts : Tokens) → Is o m.OpenRound → item_of source cond stmt (x ++ (o ∷ ts)) ≡ read_headed source stmt at head (o ∷ ts)
  reads_head cond stmt (int t u ht hu) o ts ho = typed_int cond stmt t u o ts ht hu ho
  reads_head cond stmt (void t u ht hu) o ts ho = typed_void cond stmt t u (o ∷ ts) ht hu
  reads_head cond stmt (main t ht h) o ts ho = main_read cond stmt t (o ∷ ts) ht h

  -- ---- items

  reads_item : {n : ℕ} {a : RawItem} {x : Tokens} → SpellsItem source n a x → (r : Tokens) → n ≤ depth → read_item source depth (x ++ r) ≡ got a 0 r
  reads_item (globals e {n = n} {ty = ty} {all = all} {x = x} {y = y} types list he) r fits =
      ap (read_item source depth) (append_assoc x (y ++ e ∷ []) r ∙ ap (λ (w : Tokens). x ++ w) (append_assoc y (e ∷ []) r))
      ∙ type_item constant (read_piece source depth) types (y ++ (e ∷ r)) (globals_no_head list e r he)
      ∙ globals_done constant ty all n e (x ++ (y ++ (e ∷ r))) (y ++ (e ∷ r)) r (reads_type types (y ++ (e ∷ r)))
      (complete_list RawGlobal (SpellsGlobal source) (read_global source constant) depth (Stops 13) (λ j a z w spelled small stop. reads_global spelled w small stop) (stops_comma source) list (e ∷ r) fits (mark_stops e m.Semicolon r he (omega arith)) (ends_semicolon source e r he)) he
  reads_item (registers t e {n = n} {all = all} {x = x} ht list he) r fits =
      ap (λ (w : Tokens). read_item source depth (t ∷ w)) (append_assoc x (e ∷ []) r)
      ∙ begun_registers constant (read_piece source depth) t (x ++ (e ∷ r)) ht
      ∙ plain_registers constant t.place (x ++ (e ∷ r)) (registers_begin list (e ∷ r))
      ∙ registers_done constant t.place false all n e (x ++ (e ∷ r)) r (register_list list e r fits he) he
  reads_item (int_registers t u e {n = n} {all = all} {x = x} ht hu list he) r fits =
      ap (λ (w : Tokens). read_item source depth (t ∷ u ∷ w)) (append_assoc x (e ∷ []) r)
      ∙ begun_registers constant (read_piece source depth) t (u ∷ (x ++ (e ∷ r))) ht
      ∙ int_read constant t.place u (x ++ (e ∷ r)) hu
      ∙ registers_done constant t.place true all n e (x ++ (e ∷ r)) r (register_list list e r fits he) he
  reads_item (function o c p l {n = n} {head = head} {at = at} {all = all} {body = code} {x = x} {y = y} {z = z} hhead ho hall hc hp inside hl) r fits =
      ap (read_item source depth) (append_assoc x (o ∷ (y ++ c ∷ p ∷ (z ++ l ∷ []))) r ∙ ap (λ (w : Tokens). x ++ (o ∷ w)) (append_assoc y (c ∷ p ∷ (z ++ l ∷ [])) r ∙ ap (λ (w : Tokens). y ++ (c ∷ p ∷ w)) (append_assoc z (l ∷ []) r)))
      ∙ reads_head constant (read_piece source depth) hhead o (y ++ (c ∷ p ∷ (z ++ (l ∷ r)))) ho
      ∙ headed_function (read_piece source depth) at head all o c p (y ++ (c ∷ p ∷ (z ++ (l ∷ r)))) (z ++ (l ∷ r)) ho (reads_params true hall c (p ∷ (z ++ (l ∷ r))) hc) hc hp
      ∙ function_read (read_piece source depth) at head all code p (z ++ (l ∷ r)) r (params_named hall) hp (whole_body source inside depth l r fits hl)
  reads_item (proto o c e {head = head} {at = at} {all = all} {x = x} {y = y} hhead ho hall hc he) r fits =
      ap (read_item source depth) (append_assoc x (o ∷ (y ++ c ∷ e ∷ [])) r ∙ ap (λ (w : Tokens). x ++ (o ∷ w)) (append_assoc y (c ∷ e ∷ []) r))
      ∙ reads_head constant (read_piece source depth) hhead o (y ++ (c ∷ e ∷ r)) ho
      ∙ headed_proto (read_piece source depth) at head all o c e (y ++ (c ∷ e ∷ r)) r ho (reads_params false hall c (e ∷ r) hc) hc he

  abbrev Nonempty : Tokens → Type 0
  Nonempty x = (t : Token) × (y : Tokens) × (x ≡ t ∷ y)

  in_front : (x z : Tokens) → Nonempty x → Nonempty (x ++ z)
  in_front x z (t, y, is) = (t, y ++ z, ap (λ (w : Tokens). w ++ z) is)

  head_some : {head : RawResult} {at : Place} {x : Tokens} → SpellsResult source head at x → Nonempty x
  head_some (int t u ht hu) = (t, _, refl)
  head_some (void t u ht hu) = (t, _, refl)
  head_some (main t ht h) = (t, _, refl)

  type_some : {ty : RawType} {x : Tokens} → SpellsType ty x → Nonempty x
  type_some (words t h) = (t, _, refl)

  item_some : {n : ℕ} {a : RawItem} {x : Tokens} → SpellsItem source n a x → Nonempty x
  item_some (globals e {x = x} {y = y} types list he) = in_front x (y ++ e ∷ []) (type_some types)
  item_some (registers t e ht list he) = (t, _, refl)
  item_some (int_registers t u e ht hu list he) = (t, _, refl)
  item_some (function o c p l {x = x} {y = y} {z = z} hhead ho hall hc hp inside hl) = in_front x (o ∷ (y ++ c ∷ p ∷ (z ++ l ∷ []))) (head_some hhead)
  item_some (proto o c e {x = x} {y = y} hhead ho hall hc he) = in_front x (o ∷ (y ++ c ∷ e ∷ [])) (head_some hhead)

  items_end : (one : ReaderOf RawItem) (turns : ℕ) (front : List RawItem) → items one turns front [] ≡ got front 0 []
  unfolding items
  items_end one zero front = refl
  items_end one (suc f) front = refl

  items_more : (one : ReaderOf RawItem) (f : ℕ) (front : List RawItem) (t : Token) (ts w : Tokens) (a : RawItem) → one (t ∷ ts) ≡ got a 0 w → items one (suc f) front (t ∷ ts) ≡ items one f (front ++ a ∷ []) w
  unfolding items
  items_more one f front t ts w a found = ap (items_step (items one f) front) found

  items_more_at : (one : ReaderOf RawItem) (f : ℕ) (front : List RawItem) (x w : Tokens) (a : RawItem) → Nonempty x → one x ≡ got a 0 w → items one (suc f) front x ≡ items one f (front ++ a ∷ []) w
  items_more_at one f front x w a (t, y, is) found =
      ap (items one (suc f) front) is ∙ items_more one f front t y w a (subst (λ (z : Tokens). one z ≡ got a 0 w) is found)

  some_length : (x : Tokens) → Nonempty x → 1 ≤ length x
  some_length x (t, y, is) = omega (arith, ap length is)

  reads_items : {n : ℕ} {all : List RawItem} {x : Tokens} → SpellsItems source n all x → (turns : ℕ) (front : List RawItem) → n ≤ depth → length x ≤ turns → items (read_item source depth) turns front x ≡ got (front ++ all) 0 []
  reads_items (last_item {x = x} h) zero front fits long = absurd (omega (arith, some_length x (item_some h), long))
  reads_items (last_item {a = a} {x = x} h) (suc f) front fits long =
      items_more_at (read_item source depth) f front x [] a (item_some h) (subst (λ (z : Tokens). read_item source depth z ≡ got a 0 []) (append-nil x) (reads_item h [] fits)) ∙ items_end (read_item source depth) f (front ++ a ∷ [])
  reads_items (more_items {x = x} {y = y} h rest) zero front fits long = absurd (omega (arith, some_length x (item_some h), length-append x y, long))
  reads_items (more_items {a = a} {rest = others} {x = x} {y = y} h rest) (suc f) front fits long =
      items_more_at (read_item source depth) f front (x ++ y) y a (in_front x y (item_some h)) (reads_item h y (omega (arith, fits)))
      ∙ reads_items rest f (front ++ a ∷ []) (omega (arith, fits)) (omega (arith, some_length x (item_some h), length-append x y, long))
      ∙ ap (λ (z : List RawItem). got z 0 []) (append_assoc front (a ∷ []) others)

  items_some : {n : ℕ} {all : List RawItem} {x : Tokens} → SpellsItems source n all x → Nonempty x
  items_some (last_item h) = item_some h
  items_some (more_items {x = x} {y = y} h rest) = in_front x y (item_some h)

  all_items : (x : Tokens) (all : List RawItem) → Nonempty x → items (read_item source depth) (length x) [] x ≡ got all 0 [] → read_items source depth x ≡ got all 0 []
  all_items x all (t, y, is) found =
      subst (λ (z : Tokens). items (read_item source depth) (length z) [] z ≡ got all 0 [] → read_items source depth z ≡ got all 0 []) (sym is) (λ h. h) found

  -- whatever items are spelled are read
  pub complete_items : {n : ℕ} {all : List RawItem} {x : Tokens} → SpellsItems source n all x → n ≤ depth → read_items source depth x ≡ got all 0 []
  complete_items {all = all} {x = x} h fits = all_items x all (items_some h) (reads_items h (length x) [] fits (omega arith))
