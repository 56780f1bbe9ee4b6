-- Whatever is spelled is read, and nothing else stands in its place.
use Rattle.std.proofs.Common.{◌≡◌, ℕ, zero, suc, max, ◌<◌, ◌≤◌, Bool, true, false, List, [], ◌∷◌, ◌++◌, append_assoc, Option, Some, None, refl, sym, ap, subst, ◌∙◌, arith}
use Rattle.xmt_base.specs.declared.Place.{Place}
use Rattle.xmt_lex.specs.declared.Token.{Token}
use Rattle.xmt_lex.specs.declared.TokenKind.{TokenKind}
use Rattle.xmt_lex.specs.declared.TokenKind.TheVariants as kind
use Rattle.xmt_lex.specs.declared.kinds.Mark.{Mark}
use Rattle.xmt_lex.specs.declared.kinds.Mark.TheVariants as m
use Rattle.raw_tree.specs.declared.tree.RawSpot.{RawSpot}
use Rattle.raw_tree.specs.declared.tree.RawSpot.TheVariants as spot
use Rattle.raw_tree.specs.declared.tree.RawExpr.{RawExpr}
use Rattle.raw_tree.specs.declared.tree.RawExprKind.TheVariants as e
use Rattle.raw_tree.specs.Level.{Tokens, Level, Parted, last_one, more_ones, Post, Tight, Cond, Whole, rank, joins, joins_mark, Stops, is_prefix, is_step}
use Rattle.raw_tree.specs.Grammar.{node, name_of, SpellsSpot, name, element, Spells, SpellsValues, no_values_between, values_between, SpellsList, last_value, more_values, number, dollar, brackets, call, read, step_after, step_before, prefix, binary, choose, assign, as_unary, as_binary, as_cond, as_expr}
use Rattle.raw_tree.specs.Reading.{Reader, GotExpr, got, got, chain, chosen, chosen_behind, assigned, assigned_behind, mark_of, open_square, read_spot, stepped, stepped_behind, step_place, open_round, close_round, read_parted, read_values, values_close, values_behind, called, named, is_step_kind, begun, unary_begun, read_post, read_unary, read_binary, readers, read_at}
use Rattle.raw_tree.proofs.Parted.{NoComma, complete_list}
use Rattle.raw_tree.proofs.Chain.{above, same, below, chain_stops, chain_turn}

-- a place that may not go on with an index
abbrev Closed : Tokens → Type 0
Closed [] = Unit {0}
Closed (t ∷ ts) = open_square t.kind ≡ false

-- a name that may not go on with values
abbrev NotCalled : Tokens → Type 0
NotCalled [] = Unit {0}
NotCalled (t ∷ ts) = open_round t.kind ≡ false

-- the tokens that begin an expression
abbrev pub starts : TokenKind → Bool
starts kind.Name = true
starts (kind.Number v) = true
starts (kind.Mark m.Dollar) = true
starts (kind.Mark m.OpenRound) = true
starts (kind.Mark m.Minus) = true
starts (kind.Mark m.Plus) = true
starts (kind.Mark m.Not) = true
starts (kind.Mark m.Tilde) = true
starts (kind.Mark m.PlusPlus) = true
starts (kind.Mark m.MinusMinus) = true
starts _ = false

abbrev pub Begins : Tokens → Type 0
Begins x = (t : Token) × (y : Tokens) × (x ≡ t ∷ y) × (starts t.kind ≡ true)

pub goes_behind : (x z : Tokens) → Begins x → Begins (x ++ z)
goes_behind x z (t, y, is, h) = (t, y ++ z, ap (λ (w : Tokens). w ++ z) is, h)

starts_by : (t : Token) (k : TokenKind) → t.kind ≡ k → starts k ≡ true → starts t.kind ≡ true
starts_by t k is h = ap starts is ∙ h

starts_step : (m : Mark) → is_step m ≡ true → starts (kind.Mark m) ≡ true
starts_step m.PlusPlus h = refl
starts_step m.MinusMinus h = refl
starts_step _ h = absurd (cc)

starts_prefix : (m : Mark) → is_prefix m ≡ true → starts (kind.Mark m) ≡ true
starts_prefix m.Minus h = refl
starts_prefix m.Plus h = refl
starts_prefix m.Not h = refl
starts_prefix m.Tilde h = refl
starts_prefix _ h = absurd (cc)

starts_open : (k : TokenKind) → starts k ≡ true → close_round k ≡ false
starts_open (kind.Mark m.CloseRound) h = absurd (cc)
starts_open _ h = refl

-- what can go on with a level has the rank of its own or a tighter one; the binary levels alone go on with themselves
abbrev before : Level → ℕ
before Post = 0
before (Tight zero) = 1
before (Tight (suc k)) = suc k
before Cond = 12
before Whole = 13

module _ (source : List ℕ) where
  -- how reading goes on once a tree of a level is read
  abbrev goes_on : (d : ℕ) → Level → RawExpr → ℕ → Tokens → Option GotExpr
  goes_on d (Tight (suc k)) a n r = chain (suc d) (suc (suc k)) (read_at source d (Tight k)) (suc d) a n r
  goes_on d _ a n r = got a n r

  -- what the law says of a tree
  abbrev Reads : Level → RawExpr → ℕ → Tokens → Type 0
  Reads l a n x = (d : ℕ) (r : Tokens) → n ≤ suc d → Stops (before l) r → read_at source d l (x ++ r) ≡ goes_on d l a n r

  stops_less : (i j : ℕ) (r : Tokens) → i ≤ j → Stops j r → Stops i r
  stops_less i j [] h stops = tt
  stops_less i j (t ∷ ts) h stops = omega arith

  full : (l : Level) (a : RawExpr) (n : ℕ) (x : Tokens) → Reads l a n x → (d : ℕ) (r : Tokens) → n ≤ suc d → Stops (rank l) r → read_at source d l (x ++ r) ≡ got a n r
  full Post a n x reads d r h stops = reads d r h stops
  full (Tight zero) a n x reads d r h stops = reads d r h stops
  full (Tight (suc k)) a n x reads d r h stops = reads d r h (stops_less (suc k) (suc (suc k)) r (omega arith) stops) ∙ chain_stops (suc d) (suc (suc k)) _ (suc d) a n r stops
  full Cond a n x reads d r h stops = reads d r h stops
  full Whole a n x reads d r h stops = reads d r h stops

  positive : {n : ℕ} {l : Level} {a : RawExpr} {x : Tokens} → Spells source n l a x → 0 < n
  positive (number t k) = omega arith
  positive (dollar t k) = omega arith
  positive (brackets o c p h q) = omega arith
  positive (call t o c p q h s) = omega arith
  positive (read s) = omega arith
  positive (step_after t s k q) = omega arith
  positive (step_before t k q s) = omega arith
  positive (prefix t k q h) = omega arith
  positive (binary t h k q g) = omega arith
  positive (choose t u h p g q i) = omega arith
  positive (assign t s k q h) = omega arith
  positive (as_unary h) = positive h
  positive (as_binary h) = positive h
  positive (as_cond h) = positive h
  positive (as_expr h) = positive h

  -- what stands inside, read at one depth less
  inside : (a : RawExpr) (n : ℕ) (x : Tokens) → 0 < n → Reads Whole a n x → (d : ℕ) (r : Tokens) → n ≤ d → Stops 13 r → (readers source d).of_expr (x ++ r) ≡ got a n r
  unfolding readers
  inside a n x some reads zero r h stops = absurd (omega (arith, some))
  inside a n x some reads (suc d) r h stops = reads d r h stops

  inside_cond : (a : RawExpr) (n : ℕ) (x : Tokens) → 0 < n → Reads Cond a n x → (d : ℕ) (r : Tokens) → n ≤ d → Stops 12 r → (readers source d).of_cond (x ++ r) ≡ got a n r
  unfolding readers
  inside_cond a n x some reads zero r h stops = absurd (omega (arith, some))
  inside_cond a n x some reads (suc d) r h stops = reads d r h stops

  inside_unary : (a : RawExpr) (n : ℕ) (x : Tokens) → 0 < n → Reads (Tight 0) a n x → (d : ℕ) (r : Tokens) → n ≤ d → Stops 1 r → (readers source d).of_unary (x ++ r) ≡ got a n r
  unfolding readers read_binary
  inside_unary a n x some reads zero r h stops = absurd (omega (arith, some))
  inside_unary a n x some reads (suc d) r h stops = reads d r h stops

  -- what stands behind a tree and does not go on with it
  chosen_stops : (depth : ℕ) (whole last : Reader) (a : RawExpr) (n : ℕ) (r : Tokens) → Stops 12 r → chosen depth whole last a n r ≡ got a n r
  chosen_stops depth whole last a n [] h = refl
  chosen_stops depth whole last a n (t ∷ ts) h = rw (above (joins t.kind) 12 h)

  assigned_stops : (depth : ℕ) (whole : Reader) (a : RawExpr) (n : ℕ) (r : Tokens) → Stops 13 r → assigned depth whole a n r ≡ got a n r
  assigned_stops depth whole a n [] h = refl
  assigned_stops depth whole a n (t ∷ ts) h = rw (above (joins t.kind) 13 h)

  closing_mark : (t : Token) (m : Mark) (l : ℕ) (ts : Tokens) → t.kind ≡ kind.Mark m → l < joins_mark m → Stops l (t ∷ ts)
  closing_mark t m l ts k h = rw k h

  not_square : (m : Mark) → 0 < joins_mark m → open_square (kind.Mark m) ≡ false
  not_square m.OpenSquare h = absurd (omega (arith, h))
  not_square _ h = refl

  not_step : (m : Mark) → 0 < joins_mark m → is_step m ≡ false
  not_step m.PlusPlus h = absurd (omega (arith, h))
  not_step m.MinusMinus h = absurd (omega (arith, h))
  not_step _ h = refl

  step_not_square : (m : Mark) → is_step m ≡ true → open_square (kind.Mark m) ≡ false
  step_not_square m.PlusPlus h = refl
  step_not_square m.MinusMinus h = refl
  step_not_square m.OpenSquare h = absurd (cc)
  step_not_square _ h = refl

  not_round : (m : Mark) → 0 < joins_mark m → open_round (kind.Mark m) ≡ false
  not_round m.OpenRound h = absurd (omega (arith, h))
  not_round _ h = refl

  step_not_round : (m : Mark) → is_step m ≡ true → open_round (kind.Mark m) ≡ false
  step_not_round m.OpenRound h = absurd (cc)
  step_not_round _ h = refl

  kind_not_round : (k : TokenKind) → 0 < joins k → open_round k ≡ false
  kind_not_round (kind.Mark m) h = not_round m h
  kind_not_round _ h = refl

  not_called : (r : Tokens) → Stops 0 r → NotCalled r
  not_called [] h = tt
  not_called (t ∷ ts) h = kind_not_round t.kind h

  kind_not_square : (k : TokenKind) → 0 < joins k → open_square k ≡ false
  kind_not_square (kind.Mark m) h = not_square m h
  kind_not_square _ h = refl

  kind_not_step : (k : TokenKind) → 0 < joins k → is_step_kind k ≡ false
  kind_not_step (kind.Mark m) h = not_step m h
  kind_not_step _ h = refl

  closed : (r : Tokens) → Stops 0 r → Closed r
  closed [] h = tt
  closed (t ∷ ts) h = kind_not_square t.kind h

  no_step : (p : Place) (s : RawSpot) (n : ℕ) (r : Tokens) → Stops 0 r → stepped p s n r ≡ got (node p (e.Read s)) (suc n) r
  no_step p s n [] h = refl
  no_step p s n (t ∷ ts) h = rw (kind_not_step t.kind h)

  -- what the law says of a place: a name, and what is read behind it
  abbrev SpotReads : RawSpot → Place → ℕ → Tokens → Type 0
  SpotReads s p n x =
      (t : Token) × (y : Tokens) × (x ≡ t ∷ y) × (t.kind ≡ kind.Name) × (t.place ≡ p)
      × ((d : ℕ) (r : Tokens) → n ≤ d → Closed r → read_spot (readers source d).of_expr (name_of source t) (y ++ r) ≡ got s n r)
      × ((r : Tokens) → NotCalled r → NotCalled (y ++ r))

  spot_name : (whole : Reader) (t : Token) (r : Tokens) → Closed r → read_spot whole (name_of source t) r ≡ got (spot.Name (name_of source t)) 0 r
  spot_name whole t [] c = refl
  spot_name whole t (o ∷ ts) c = rw (c)

  spot_element : (whole : Reader) (t o c : Token) (a : RawExpr) (n : ℕ) (x r : Tokens) → o.kind ≡ kind.Mark m.OpenSquare → whole (x ++ c ∷ r) ≡ got a n (c ∷ r) → c.kind ≡ kind.Mark m.CloseSquare →
      read_spot whole (name_of source t) ((o ∷ (x ++ c ∷ [])) ++ r) ≡ got (spot.Element (name_of source t) a) n r
  spot_element whole t o c a n x r ko inner kc = rw (ko, append_assoc x (c ∷ []) r, inner, kc)

  read_number : (whole : Reader) (t : Token) (v : ℕ) (r : Tokens) → t.kind ≡ kind.Number v → read_post source whole (t ∷ r) ≡ got (node t.place (e.Number v)) 1 r
  read_number whole t v r k = rw (k)

  read_dollar : (whole : Reader) (t : Token) (r : Tokens) → t.kind ≡ kind.Mark m.Dollar → read_post source whole (t ∷ r) ≡ got (node t.place e.Dollar) 1 r
  read_dollar whole t r k = rw (k)

  read_brackets : (whole : Reader) (o c : Token) (a : RawExpr) (n : ℕ) (x r : Tokens) → o.kind ≡ kind.Mark m.OpenRound → whole (x ++ c ∷ r) ≡ got a n (c ∷ r) → c.kind ≡ kind.Mark m.CloseRound →
      read_post source whole ((o ∷ (x ++ c ∷ [])) ++ r) ≡ got (node o.place (e.Brackets a)) (suc n) r
  read_brackets whole o c a n x r ko inner kc = rw (ko, append_assoc x (c ∷ []) r, inner, kc)

  named_place : (whole : Reader) (t : Token) (ts : Tokens) → NotCalled ts → named source whole t ts ≡ stepped_behind t.place (read_spot whole (name_of source t) ts)
  named_place whole t [] h = refl
  named_place whole t (o ∷ ts) h = rw h

  read_named : (whole : Reader) (t : Token) (y r : Tokens) (s : RawSpot) (n : ℕ) → t.kind ≡ kind.Name → NotCalled (y ++ r) → read_spot whole (name_of source t) (y ++ r) ≡ got s n r →
      read_post source whole (t ∷ (y ++ r)) ≡ stepped t.place s n r
  read_named whole t y r s n k alone found =
      ap (λ (q : TokenKind). begun source whole t q (y ++ r)) k ∙ named_place whole t (y ++ r) alone ∙ ap (stepped_behind t.place) found

  values_closed : (values : List RawExpr) (n : ℕ) (c : Token) (r : Tokens) → c.kind ≡ kind.Mark m.CloseRound → values_close values n (c ∷ r) ≡ got values n r
  values_closed values n c r k = rw k

  named_call : (whole : Reader) (t o : Token) (ts r : Tokens) (values : List RawExpr) (n : ℕ) → o.kind ≡ kind.Mark m.OpenRound → read_values whole ts ≡ got values n r →
      named source whole t (o ∷ ts) ≡ got (node t.place (e.Call (name_of source t) values)) (suc n) r
  named_call whole t o ts r values n ko found = rw (ko) (ap (called t.place (name_of source t)) found)

  values_none : (whole : Reader) (c : Token) (r : Tokens) → c.kind ≡ kind.Mark m.CloseRound → read_values whole (c ∷ r) ≡ got [] 0 r
  values_none whole c r k = rw k

  values_begun : (whole : Reader) (t c : Token) (ts r : Tokens) (values : List RawExpr) (n : ℕ) → close_round t.kind ≡ false → read_parted whole (t ∷ ts) ≡ got values n (c ∷ r) → c.kind ≡ kind.Mark m.CloseRound →
      read_values whole (t ∷ ts) ≡ got values n r
  values_begun whole t c ts r values n other found k = rw (other) (ap values_behind found ∙ values_closed values n c r k)

  values_some : (whole : Reader) (x r : Tokens) (c : Token) (values : List RawExpr) (n : ℕ) → Begins x → read_parted whole (x ++ (c ∷ r)) ≡ got values n (c ∷ r) → c.kind ≡ kind.Mark m.CloseRound →
      read_values whole (x ++ (c ∷ r)) ≡ got values n r
  values_some whole x r c values n (t, y, is, begins) found k =
      subst (λ (z : Tokens). read_values whole (z ++ (c ∷ r)) ≡ got values n r) (sym is)
      (values_begun whole t c (y ++ (c ∷ r)) r values n (starts_open t.kind begins) (subst (λ (z : Tokens). read_parted whole (z ++ (c ∷ r)) ≡ got values n (c ∷ r)) is found) k)

  read_call : (whole : Reader) (t o : Token) (ts r : Tokens) (values : List RawExpr) (n : ℕ) → t.kind ≡ kind.Name → o.kind ≡ kind.Mark m.OpenRound → read_values whole ts ≡ got values n r →
      read_post source whole (t ∷ (o ∷ ts)) ≡ got (node t.place (e.Call (name_of source t) values)) (suc n) r
  read_call whole t o ts r values n k ko found = ap (λ (q : TokenKind). begun source whole t q (o ∷ ts)) k ∙ named_call whole t o ts r values n ko found

  read_place : (s : RawSpot) (p : Place) (n : ℕ) (x : Tokens) → SpotReads s p n x → Reads Post (node p (e.Read s)) (suc n) x
  read_place s p n x (t, y, is, k, at, found, alone) d r h stops =
      subst (λ (q : Place). read_post source (readers source d).of_expr (x ++ r) ≡ got (node q (e.Read s)) (suc n) r) at
      (subst (λ (z : Tokens). read_post source (readers source d).of_expr (z ++ r) ≡ got (node t.place (e.Read s)) (suc n) r) (sym is)
      (read_named (readers source d).of_expr t y r s n k (alone r (not_called r stops)) (found d r (omega arith) (closed r stops)) ∙ no_step t.place s n r stops))

  step_turn : (p : Place) (s : RawSpot) (n : ℕ) (t : Token) (m : Mark) (r : Tokens) → t.kind ≡ kind.Mark m → is_step m ≡ true → stepped p s n (t ∷ r) ≡ got (node p (e.StepAfter s m)) (suc n) r
  step_turn p s n t m r k q = rw (k, q)

  read_step_after : (s : RawSpot) (p : Place) (n : ℕ) (x : Tokens) (t : Token) (m : Mark) → SpotReads s p n x → t.kind ≡ kind.Mark m → is_step m ≡ true → Reads Post (node p (e.StepAfter s m)) (suc n) (x ++ t ∷ [])
  read_step_after s p n x t m (u, y, is, k, at, found, alone) mark step d r h stops =
      let no_index : open_square t.kind ≡ false = rw mark (step_not_square m step) in
      let no_call : open_round t.kind ≡ false = rw mark (step_not_round m step) in
      subst (λ (q : Place). read_post source (readers source d).of_expr ((x ++ t ∷ []) ++ r) ≡ got (node q (e.StepAfter s m)) (suc n) r) at
      (subst (λ (z : Tokens). read_post source (readers source d).of_expr ((z ++ t ∷ []) ++ r) ≡ got (node u.place (e.StepAfter s m)) (suc n) r) (sym is)
      (ap (λ (w : Tokens). read_post source (readers source d).of_expr (u ∷ w)) (append_assoc y (t ∷ []) r)
      ∙ read_named (readers source d).of_expr u y (t ∷ r) s n k (alone (t ∷ r) no_call) (found d (t ∷ r) (omega arith) no_index) ∙ step_turn u.place s n t m r mark step))

  step_no_prefix : (m : Mark) → is_step m ≡ true → is_prefix m ≡ false
  step_no_prefix m.Minus h = absurd (cc)
  step_no_prefix m.Plus h = absurd (cc)
  step_no_prefix m.Not h = absurd (cc)
  step_no_prefix m.Tilde h = absurd (cc)
  step_no_prefix _ h = refl

  place_begun : (whole : Reader) (t : Token) (ts : Tokens) → t.kind ≡ kind.Name → step_place source whole (t ∷ ts) ≡ read_spot whole (name_of source t) ts
  place_begun whole t ts k = rw (k)

  step_unary : (whole inner : Reader) (t : Token) (m : Mark) (ts r : Tokens) (s : RawSpot) (n : ℕ) → t.kind ≡ kind.Mark m → is_step m ≡ true → step_place source whole ts ≡ got s n r →
      read_unary source whole inner (t ∷ ts) ≡ got (node t.place (e.StepBefore m s)) (suc n) r
  step_unary whole inner t m ts r s n k q found = rw (k, step_no_prefix m q, q, found)

  prefix_unary : (whole inner : Reader) (t : Token) (m : Mark) (ts r : Tokens) (a : RawExpr) (n : ℕ) → t.kind ≡ kind.Mark m → is_prefix m ≡ true → inner ts ≡ got a n r →
      read_unary source whole inner (t ∷ ts) ≡ got (node t.place (e.Prefix m a)) (suc n) r
  prefix_unary whole inner t m ts r a n k q found = rw (k, q, found)

  read_step_before : (s : RawSpot) (p : Place) (n : ℕ) (x : Tokens) (t : Token) (m : Mark) → t.kind ≡ kind.Mark m → is_step m ≡ true → SpotReads s p n x → Reads (Tight 0) (node t.place (e.StepBefore m s)) (suc n) (t ∷ x)
  unfolding read_binary
  read_step_before s p n x t m mark step (u, y, is, k, at, found, alone) d r h stops =
      step_unary (readers source d).of_expr (readers source d).of_unary t m (x ++ r) r s n mark step
      (subst (λ (z : Tokens). step_place source (readers source d).of_expr (z ++ r) ≡ got s n r) (sym is)
      (place_begun (readers source d).of_expr u (y ++ r) k ∙ found d r (omega arith) (closed r (stops_less 0 1 r (omega arith) stops))))

  read_prefix : (t : Token) (m : Mark) (n : ℕ) (a : RawExpr) (x : Tokens) → t.kind ≡ kind.Mark m → is_prefix m ≡ true → 0 < n → Reads (Tight 0) a n x → Reads (Tight 0) (node t.place (e.Prefix m a)) (suc n) (t ∷ x)
  unfolding read_binary
  read_prefix t m n a x k q some inner d r h stops =
      prefix_unary (readers source d).of_expr (readers source d).of_unary t m (x ++ r) r a n k q (inside_unary a n x some inner d r (omega arith) stops)

  -- no unary mark begins a post
  abbrev PostBegins : Tokens → Type 0
  PostBegins x = (t : Token) × (y : Tokens) × (x ≡ t ∷ y) × ((whole inner : Reader) (ts : Tokens) → unary_begun source whole inner t t.kind ts ≡ begun source whole t t.kind ts)

  begins_number : (t : Token) (v : ℕ) (whole inner : Reader) (ts : Tokens) → t.kind ≡ kind.Number v → unary_begun source whole inner t t.kind ts ≡ begun source whole t t.kind ts
  begins_number t v whole inner ts k = rw (k)

  begins_name : (t : Token) (whole inner : Reader) (ts : Tokens) → t.kind ≡ kind.Name → unary_begun source whole inner t t.kind ts ≡ begun source whole t t.kind ts
  begins_name t whole inner ts k = rw (k)

  begins_dollar : (t : Token) (whole inner : Reader) (ts : Tokens) → t.kind ≡ kind.Mark m.Dollar → unary_begun source whole inner t t.kind ts ≡ begun source whole t t.kind ts
  begins_dollar t whole inner ts k = rw (k)

  begins_round : (t : Token) (whole inner : Reader) (ts : Tokens) → t.kind ≡ kind.Mark m.OpenRound → unary_begun source whole inner t t.kind ts ≡ begun source whole t t.kind ts
  begins_round t whole inner ts k = rw (k)

  spot_begins : {s : RawSpot} {p : Place} {n : ℕ} {x : Tokens} → SpellsSpot source n s p x → PostBegins x
  spot_begins (name t k) = (t, [], refl, λ whole inner ts. begins_name t whole inner ts k)
  spot_begins (element t o c k ko h kc) = (t, _, refl, λ whole inner ts. begins_name t whole inner ts k)

  begins_on : (x z : Tokens) → PostBegins x → PostBegins (x ++ z)
  begins_on x z (t, y, is, same) = (t, y ++ z, ap (λ (w : Tokens). w ++ z) is, same)

  post_begins : {n : ℕ} {a : RawExpr} {x : Tokens} → Spells source n Post a x → PostBegins x
  post_begins (number t {v = v} k) = (t, [], refl, λ whole inner ts. begins_number t v whole inner ts k)
  post_begins (dollar t k) = (t, [], refl, λ whole inner ts. begins_dollar t whole inner ts k)
  post_begins (brackets o c p h q) = (o, _, refl, λ whole inner ts. begins_round o whole inner ts p)
  post_begins (call t o c p q h s) = (t, _, refl, λ whole inner ts. begins_name t whole inner ts p)
  post_begins (read s) = spot_begins s
  post_begins (step_after t {x = x} s k q) = begins_on x (t ∷ []) (spot_begins s)

  -- from a level to the next looser one
  lift_unary : (a : RawExpr) (n : ℕ) (x : Tokens) → PostBegins x → Reads Post a n x → Reads (Tight 0) a n x
  unfolding read_binary
  lift_unary a n x (t, y, is, same) reads d r h stops =
      subst (λ (z : Tokens). read_unary source (readers source d).of_expr (readers source d).of_unary (z ++ r) ≡ got a n r) (sym is)
      (same (readers source d).of_expr (readers source d).of_unary (y ++ r)
      ∙ subst (λ (z : Tokens). read_post source (readers source d).of_expr (z ++ r) ≡ got a n r) is (reads d r h (stops_less 0 1 r (omega arith) stops)))

  lift_binary : (k : ℕ) (a : RawExpr) (n : ℕ) (x : Tokens) → Reads (Tight k) a n x → Reads (Tight (suc k)) a n x
  unfolding read_binary
  lift_binary k a n x reads d r h stops = rw (read_binary, full (Tight k) a n x reads d r h stops)

  lift_cond : (a : RawExpr) (n : ℕ) (x : Tokens) → Reads (Tight 10) a n x → Reads Cond a n x
  lift_cond a n x reads d r h stops =
      ap (chosen_behind (suc d) (readers source d).of_expr (readers source d).of_cond) (full (Tight 10) a n x reads d r h (stops_less 11 12 r (omega arith) stops))
      ∙ chosen_stops (suc d) (readers source d).of_expr (readers source d).of_cond a n r stops

  lift_expr : (a : RawExpr) (n : ℕ) (x : Tokens) → Reads Cond a n x → Reads Whole a n x
  lift_expr a n x reads d r h stops =
      ap (assigned_behind (suc d) (readers source d).of_expr) (reads d r h (stops_less 12 13 r (omega arith) stops))
      ∙ assigned_stops (suc d) (readers source d).of_expr a n r stops

  lift_tight : (k : ℕ) (a : RawExpr) (n : ℕ) (x : Tokens) → Reads (Tight 0) a n x → Reads (Tight k) a n x
  lift_tight zero a n x reads = reads
  lift_tight (suc k) a n x reads = lift_binary k a n x (lift_tight k a n x reads)

  read_binary_node : (t : Token) (m : Mark) (i j k : ℕ) (a b : RawExpr) (x y : Tokens) → Reads (Tight (suc k)) a i x → t.kind ≡ kind.Mark m → joins_mark m ≡ suc (suc k) → Reads (Tight k) b j y →
      Reads (Tight (suc k)) (node a.at (e.Binary m a b)) (suc (max i j)) (x ++ t ∷ y)
  read_binary_node t m i j k a b x y left mark ranked right d r h stops =
      let is : joins t.kind ≡ suc (suc k) = ap joins mark ∙ ranked in
      let op = read_at source d (Tight k) in
      let named : mark_of t.kind ≡ m = ap mark_of mark in
      ap (read_at source d (Tight (suc k))) (append_assoc x (t ∷ y) r)
      ∙ left d (t ∷ (y ++ r)) (omega arith) (omega arith)
      ∙ chain_turn (suc d) (suc (suc k)) op (suc d) t a b i j (y ++ r) r is (full (Tight k) b j y right d r (omega arith) stops) (omega arith) (omega arith)
      ∙ ap (λ (q : Mark). chain (suc d) (suc (suc k)) op (suc d) (node a.at (e.Binary q a b)) (suc (max i j)) r) named

  read_choice : (depth : ℕ) (whole last : Reader) (t u : Token) (i j k : ℕ) (a b c : RawExpr) (y z r : Tokens) → t.kind ≡ kind.Mark m.Question → u.kind ≡ kind.Mark m.Colon → i < depth →
      whole (y ++ (u ∷ (z ++ r))) ≡ got b j (u ∷ (z ++ r)) → last (z ++ r) ≡ got c k r →
      chosen depth whole last a i (t ∷ (y ++ (u ∷ (z ++ r)))) ≡ got (node a.at (e.Choose a b c)) (suc (max i (max j k))) r
  read_choice depth whole last t u i j k a b c y z r p q fits middle end = rw (p, below i depth fits, middle, q, end)

  read_choose : (t u : Token) (i j k : ℕ) (a b c : RawExpr) (x y z : Tokens) → 0 < j → 0 < k → Reads (Tight 10) a i x → t.kind ≡ kind.Mark m.Question → Reads Whole b j y → u.kind ≡ kind.Mark m.Colon → Reads Cond c k z →
      Reads Cond (node a.at (e.Choose a b c)) (suc (max i (max j k))) (x ++ t ∷ (y ++ u ∷ z))
  read_choose t u i j k a b c x y z some_b some_c first p middle q last d r h stops =
      let question : Stops 11 (t ∷ (y ++ (u ∷ (z ++ r)))) = closing_mark t m.Question 11 (y ++ (u ∷ (z ++ r))) p (omega arith) in
      let at_colon : Stops 13 (u ∷ (z ++ r)) = closing_mark u m.Colon 13 (z ++ r) q (omega arith) in
      ap (read_at source d Cond) (append_assoc x (t ∷ (y ++ u ∷ z)) r ∙ ap (λ (w : Tokens). x ++ t ∷ w) (append_assoc y (u ∷ z) r))
      ∙ ap (chosen_behind (suc d) (readers source d).of_expr (readers source d).of_cond) (full (Tight 10) a i x first d (t ∷ (y ++ (u ∷ (z ++ r)))) (omega arith) question)
      ∙ read_choice (suc d) (readers source d).of_expr (readers source d).of_cond t u i j k a b c y z r p q (omega arith)
      (inside b j y some_b middle d (u ∷ (z ++ r)) (omega arith) at_colon) (inside_cond c k z some_c last d r (omega arith) stops)

  assign_turn : (depth : ℕ) (whole : Reader) (p : Place) (s : RawSpot) (t : Token) (m : Mark) (i j : ℕ) (b : RawExpr) (y r : Tokens) → t.kind ≡ kind.Mark m → joins_mark m ≡ 13 → whole (y ++ r) ≡ got b j r →
      assigned depth whole (node p (e.Read s)) (suc i) (t ∷ (y ++ r)) ≡ got (node p (e.Assign s m b)) (suc (max i j)) r
  assign_turn depth whole p s t m i j b y r k q found = rw (k, q, found)

  read_assign : (s : RawSpot) (p : Place) (t : Token) (m : Mark) (i j : ℕ) (b : RawExpr) (x y : Tokens) → 0 < j → PostBegins x → SpotReads s p i x → t.kind ≡ kind.Mark m → joins_mark m ≡ 13 → Reads Whole b j y →
      Reads Whole (node p (e.Assign s m b)) (suc (max i j)) (x ++ t ∷ y)
  read_assign s p t m i j b x y some begins place k q value d r h stops =
      let left : Reads Cond (node p (e.Read s)) (suc i) x =
      lift_cond _ (suc i) x (lift_tight 10 _ (suc i) x (lift_unary _ (suc i) x begins (read_place s p i x place))) in
      let is : joins t.kind ≡ 13 = ap joins k ∙ q in
      ap (read_at source d Whole) (append_assoc x (t ∷ y) r)
      ∙ ap (assigned_behind (suc d) (readers source d).of_expr) (left d (t ∷ (y ++ r)) (omega arith) (omega arith))
      ∙ assign_turn (suc d) (readers source d).of_expr p s t m i j b y r k q (inside b j y some value d r (omega arith) stops)

  spot_starts : {s : RawSpot} {p : Place} {n : ℕ} {x : Tokens} → SpellsSpot source n s p x → Begins x
  spot_starts (name t k) = (t, [], refl, starts_by t kind.Name k refl)
  spot_starts (element t o c k ko h kc) = (t, _, refl, starts_by t kind.Name k refl)

  pub begins : {n : ℕ} {l : Level} {a : RawExpr} {x : Tokens} → Spells source n l a x → Begins x
  begins (number t {v = v} k) = (t, [], refl, starts_by t (kind.Number v) k refl)
  begins (dollar t k) = (t, [], refl, starts_by t (kind.Mark m.Dollar) k refl)
  begins (brackets o c p h q) = (o, _, refl, starts_by o (kind.Mark m.OpenRound) p refl)
  begins (call t o c p q h s) = (t, _, refl, starts_by t kind.Name p refl)
  begins (read s) = spot_starts s
  begins (step_after t {x = x} s k q) = goes_behind x (t ∷ []) (spot_starts s)
  begins (step_before t {m = m} k q s) = (t, _, refl, starts_by t (kind.Mark m) k (starts_step m q))
  begins (prefix t {m = m} k q h) = (t, _, refl, starts_by t (kind.Mark m) k (starts_prefix m q))
  begins (binary t {x = x} {y = y} h k q g) = goes_behind x (t ∷ y) (begins h)
  begins (choose t u {x = x} {y = y} {z = z} h p g q i) = goes_behind x (t ∷ (y ++ u ∷ z)) (begins h)
  begins (assign t {x = x} {y = y} s k q h) = goes_behind x (t ∷ y) (spot_starts s)
  begins (as_unary h) = begins h
  begins (as_binary h) = begins h
  begins (as_cond h) = begins h
  begins (as_expr h) = begins h

  pub list_begins : {n : ℕ} {values : List RawExpr} {x : Tokens} → SpellsList source n values x → Begins x
  list_begins (last_value h) = begins h
  list_begins (more_values t {x = x} {y = y} h k rest) = goes_behind x (t ∷ y) (begins h)

  -- what is said of each value of a list
  abbrev ReadsInside : ℕ → RawExpr → Tokens → Type 0
  ReadsInside n a x = (0 < n) × Reads Whole a n x

  comma_stops : (t : Token) (ts : Tokens) → t.kind ≡ kind.Mark m.Comma → Stops 13 (t ∷ ts)
  comma_stops t ts k = closing_mark t m.Comma 13 ts k (omega arith)

  round_ends : (c : Token) (r : Tokens) → c.kind ≡ kind.Mark m.CloseRound → NoComma (c ∷ r)
  round_ends c r k = rw k

  read_list : {n : ℕ} {values : List RawExpr} {x : Tokens} → Parted RawExpr ReadsInside n values x → (d : ℕ) (r : Tokens) → n ≤ d → Stops 13 r → NoComma r → read_parted (readers source d).of_expr (x ++ r) ≡ got values n r
  read_list h d r fits stops ends =
      complete_list RawExpr ReadsInside (readers source d).of_expr d (Stops 13) (λ n a x s (some_nest, found) small stop. inside a n x some_nest found d s small stop) comma_stops h r fits stops ends

  mutual
    reads_spot : {s : RawSpot} {p : Place} {n : ℕ} {x : Tokens} → SpellsSpot source n s p x → SpotReads s p n x
    reads_spot (name t k) = (t, [], refl, k, refl, λ d r h c. spot_name (readers source d).of_expr t r c, λ r h. h)
    reads_spot (element t o c {n = n} {index = a} {x = x} k ko h kc) = (
      t,
      o ∷ (x ++ c ∷ []),
      refl,
      k,
      refl,
      λ d r fits closes.
          spot_element (readers source d).of_expr t o c a n x r ko (inside a n x (positive h) (reads h) d (c ∷ r) fits (closing_mark c m.CloseSquare 13 r kc (omega arith))) kc,
      λ r h. rw ko,
    )

    reads_each : {n : ℕ} {values : List RawExpr} {x : Tokens} → SpellsList source n values x → Parted RawExpr ReadsInside n values x
    reads_each (last_value h) = last_one (positive h, reads h)
    reads_each (more_values t h k rest) = more_ones t (positive h, reads h) k (reads_each rest)

    reads_values : {n : ℕ} {values : List RawExpr} {x : Tokens} → SpellsValues source n values x → (d : ℕ) (c : Token) (r : Tokens) → n ≤ d → c.kind ≡ kind.Mark m.CloseRound → read_values (readers source d).of_expr (x ++ (c ∷ r)) ≡ got values n r
    reads_values no_values_between d c r fits k = values_none (readers source d).of_expr c r k
    reads_values (values_between {n = n} {values = values} {x = x} h) d c r fits k =
        values_some (readers source d).of_expr x r c values n (list_begins h) (read_list (reads_each h) d (c ∷ r) fits (closing_mark c m.CloseRound 13 r k (omega arith)) (round_ends c r k)) k

    reads : {n : ℕ} {l : Level} {a : RawExpr} {x : Tokens} → Spells source n l a x → Reads l a n x
    reads (number t {v = v} k) = λ d r h stops. read_number (readers source d).of_expr t v r k
    reads (dollar t k) = λ d r h stops. read_dollar (readers source d).of_expr t r k
    reads (brackets o c {n = n} {a = a} {x = x} p inner q) = λ d r h stops. read_brackets (readers source d).of_expr o c a n x r p (inside a n x (positive inner) (reads inner) d (c ∷ r) (omega arith) (closing_mark c m.CloseRound 13 r q (omega arith))) q
    reads (call t o c {n = n} {values = values} {x = x} p q inner s) = λ d r h stops.
        ap (λ (w : Tokens). read_post source (readers source d).of_expr (t ∷ o ∷ w)) (append_assoc x (c ∷ []) r)
        ∙ read_call (readers source d).of_expr t o (x ++ (c ∷ r)) r values n p q (reads_values inner d c r (omega arith) s)
    reads (read {n = n} {s = s} {p = p} {x = x} place) = read_place s p n x (reads_spot place)
    reads (step_after t {m = m} {n = n} {s = s} {p = p} {x = x} place k q) = read_step_after s p n x t m (reads_spot place) k q
    reads (step_before t {m = m} {n = n} {s = s} {p = p} {x = x} k q place) = read_step_before s p n x t m k q (reads_spot place)
    reads (prefix t {m = m} {n = n} {a = a} {x = x} k q inner) = read_prefix t m n a x k q (positive inner) (reads inner)
    reads (binary t {m = m} {i = i} {j = j} {k = k} {a = a} {b = b} {x = x} {y = y} left mark ranked right) =
        read_binary_node t m i j k a b x y (reads left) mark ranked (reads right)
    reads (choose t u {i = i} {j = j} {k = k} {a = a} {b = b} {c = c} {x = x} {y = y} {z = z} first p middle q last) =
        read_choose t u i j k a b c x y z (positive middle) (positive last) (reads first) p (reads middle) q (reads last)
    reads (assign t {m = m} {i = i} {j = j} {s = s} {p = p} {b = b} {x = x} {y = y} place k q value) =
        read_assign s p t m i j b x y (positive value) (spot_begins place) (reads_spot place) k q (reads value)
    reads (as_unary {n = n} {a = a} {x = x} inner) = lift_unary a n x (post_begins inner) (reads inner)
    reads (as_binary {n = n} {k = k} {a = a} {x = x} inner) = lift_binary k a n x (reads inner)
    reads (as_cond {n = n} {a = a} {x = x} inner) = lift_cond a n x (reads inner)
    reads (as_expr {n = n} {a = a} {x = x} inner) = lift_expr a n x (reads inner)

  -- ---- the laws

  -- A spelled expression is read, whatever follows that does not go on with it, and with its nesting.
  pub complete : (depth n : ℕ) (a : RawExpr) (x r : Tokens) → Spells source n Whole a x → n ≤ depth → Stops 13 r → (readers source depth).of_expr (x ++ r) ≡ got a n r
  complete depth n a x r spelled fits stops = inside a n x (positive spelled) (reads spelled) depth r fits stops

  pub complete_cond : (depth n : ℕ) (a : RawExpr) (x r : Tokens) → Spells source n Cond a x → n ≤ depth → Stops 13 r → (readers source depth).of_cond (x ++ r) ≡ got a n r
  complete_cond depth n a x r spelled fits stops = inside_cond a n x (positive spelled) (reads spelled) depth r fits (stops_less 12 13 r (omega arith) stops)

  -- and so are values that are parted by commas
  pub complete_values : (depth : ℕ) {n : ℕ} {values : List RawExpr} {x : Tokens} → SpellsList source n values x → (r : Tokens) → n ≤ depth → Stops 13 r → NoComma r → read_parted (readers source depth).of_expr (x ++ r) ≡ got values n r
  complete_values depth h r fits stops ends = read_list (reads_each h) depth r fits stops ends

  -- and a place
  pub complete_place : (depth : ℕ) {n : ℕ} {s : RawSpot} {p : Place} {x : Tokens} → SpellsSpot source n s p x → (r : Tokens) → n ≤ depth → Stops 13 r → step_place source (readers source depth).of_expr (x ++ r) ≡ got s n r
  complete_place depth {n = n} {s = s} {x = x} h r fits stops =
      let (u, y, is, k, at, found, alone) = reads_spot h in
      subst (λ (z : Tokens). step_place source (readers source depth).of_expr (z ++ r) ≡ got s n r) (sym is)
      (place_begun (readers source depth).of_expr u (y ++ r) k ∙ found depth r fits (closed r (stops_less 0 13 r (omega arith) stops)))

  tree_of : RawExpr → Option GotExpr → RawExpr
  tree_of other None = other
  tree_of other (Some g) = g.tree

  nest_of : Option GotExpr → ℕ
  nest_of None = 0
  nest_of (Some g) = g.nest

  rest_of : Option GotExpr → Tokens
  rest_of None = []
  rest_of (Some g) = g.rest

  unpack : (a b : RawExpr) (n k : ℕ) (r s : Tokens) → got a n r ≡ got b k s → (a ≡ b) × (n ≡ k) × (r ≡ s)
  unfolding tree_of nest_of rest_of
  unpack a b n k r s h = (ap (tree_of a) h, ap nest_of h, ap rest_of h)

  -- Of two fronts of the same tokens that are spelled, where nothing goes on behind either, both are one, with one tree.
  pub one_front : (n k : ℕ) (a b : RawExpr) (x y r s : Tokens) → Spells source n Whole a x → Spells source k Whole b y → x ++ r ≡ y ++ s → Stops 13 r → Stops 13 s → (a ≡ b) × (n ≡ k) × (r ≡ s)
  one_front n k a b x y r s left right same_tokens stops_r stops_s =
      unpack a b n k r s (sym (complete (max n k) n a x r left (omega arith) stops_r) ∙ ap (readers source (max n k)).of_expr same_tokens ∙ complete (max n k) k b y s right (omega arith) stops_s)

  -- one list of tokens has at most one tree
  pub one_tree : (n k : ℕ) (a b : RawExpr) (x : Tokens) → Spells source n Whole a x → Spells source k Whole b x → a ≡ b
  one_tree n k a b x left right = (one_front n k a b x x [] [] left right refl tt tt).0
