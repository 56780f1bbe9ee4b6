-- One turn of the readers, as the code makes it.
use Rattle.std.proofs.Common.{◌≡◌, ℕ, zero, suc, max, ◌+◌, ◌-◌, ◌<◌, ◌≤◌, Bool, true, false, nat_lt, ◌==◌, List, [], ◌∷◌, Option, Some, None, Result, Err, length, get_or, take, drop, refl, sym, ap, subst, ◌∙◌, arith, add-one}
use Rattle.std.proofs.lemmas.List.{take_all}
use Rattle.std.proofs.lemmas.Bool.Decides.{nat_tests}
use Rattle.xmt_lex.specs.declared.Token.{Token}
use Rattle.raw_tree.specs.declared.tree.RawExpr.{RawExpr}
use Rattle.raw_tree.specs.declared.tree.RawExprKind.{RawExprKind}
use Rattle.raw_tree.specs.declared.tree.RawExprKind.TheVariants as e
use Rattle.xmt_base.specs.declared.Place.{Place}
use Rattle.raw_expressions.specs.declared.levels.Part.{Part}
use Rattle.raw_expressions.specs.declared.levels.Part.TheVariants as part
use Rattle.raw_tree.specs.Level.{Tokens, Tight, Cond, Whole, joins}
use Rattle.raw_tree.specs.Reading.{Reader, GotExpr, got, mark_of, chain, chained, read_unary, read_binary, readers, read_at, assigned, assigned_kind}
use Rattle.xmt_lex.specs.declared.kinds.Mark.{Mark}
use Rattle.raw_tree.specs.declared.read.Read.{Read}
use Rattle.raw_tree.specs.declared.read.ReadError.{ReadError}
use Rattle.raw_tree.specs.declared.read.ReadError.TheVariants.{Syntax, NoMemory}
use Rattle.raw_tree.specs.Gives.{Gives}
use Rattle.raw_expressions.specs.Parts.{part_of, joined, spot_of, assigned_spot, assigned_by}
use Rattle.raw_tree.proofs.Chain.{same, chain_turn}

module _ (source : List ℕ) where
  pub deepest : (d : ℕ) (p : Part) (ts : Tokens) → d ≡ 0 → part_of p (readers source d) ts ≡ None
  unfolding readers
  deepest zero part.Unary ts h = refl
  deepest zero part.Cond ts h = refl
  deepest zero part.Whole ts h = refl
  deepest (suc d) p ts h = absurd (cc)

  pub deeper_unary : (d : ℕ) (ts : Tokens) → 0 < d → (readers source d).of_unary ts ≡ read_unary source (readers source (d - 1)).of_expr (readers source (d - 1)).of_unary ts
  unfolding readers
  deeper_unary zero ts h = absurd (omega (arith, h))
  deeper_unary (suc d) ts h = let is : suc d - 1 ≡ d = omega arith in rw (is)

  pub deeper_cond : (d : ℕ) (ts : Tokens) → 0 < d → (readers source d).of_cond ts ≡ read_at source (d - 1) Cond ts
  unfolding readers
  deeper_cond zero ts h = absurd (omega (arith, h))
  deeper_cond (suc d) ts h = let is : suc d - 1 ≡ d = omega arith in rw (is)

  pub deeper_whole : (d : ℕ) (ts : Tokens) → 0 < d → (readers source d).of_expr ts ≡ read_at source (d - 1) Whole ts
  unfolding readers
  deeper_whole zero ts h = absurd (omega (arith, h))
  deeper_whole (suc d) ts h = let is : suc d - 1 ≡ d = omega arith in rw (is)

  pub tightest : (d k : ℕ) (ts : Tokens) → k ≡ 0 → read_at source d (Tight k) ts ≡ read_unary source (readers source d).of_expr (readers source d).of_unary ts
  unfolding read_binary
  tightest d zero ts h = refl
  tightest d (suc k) ts h = absurd (cc)

  pub looser : (d k : ℕ) (ts : Tokens) → 0 < k → read_at source d (Tight k) ts ≡ chained (suc d) (suc (suc (k - 1))) (read_at source d (Tight (k - 1))) (read_at source d (Tight (k - 1)) ts)
  unfolding read_binary
  looser d zero ts h = absurd (omega (arith, h))
  looser d (suc k) ts h = let is : suc k - 1 ≡ k = omega arith in rw (read_binary, is)

-- where a level reads nothing, no looser one reads anything
module _ (source : List ℕ) where
  up_by : (d j k : ℕ) (ts : Tokens) (b : Bool) → nat_lt k j ≡ b → j ≤ suc k → (j ≤ k → read_at source d (Tight k) ts ≡ None) → read_at source d (Tight j) ts ≡ None → read_at source d (Tight (suc k)) ts ≡ None
  unfolding read_binary
  up_by d j k ts true is h below none = let same_level : j ≡ suc k = grind (arith, nat_tests) in subst (λ (i : ℕ). read_at source d (Tight i) ts ≡ None) same_level none
  up_by d j k ts false is h below none = let fits : j ≤ k = grind (arith, nat_tests) in rw (below fits)

  pub none_up : (d j k : ℕ) (ts : Tokens) → j ≤ k → read_at source d (Tight j) ts ≡ None → read_at source d (Tight k) ts ≡ None
  none_up d zero zero ts h none = none
  none_up d (suc j) zero ts h none = absurd (omega (arith, h))
  none_up d j (suc k) ts h none = up_by d j k ts (nat_lt k j) refl h (λ fits. none_up d j k ts fits none) none

  -- the next looser level, behind what a level read
  pub level_up : (d j : ℕ) (ts : Tokens) (g : GotExpr) → read_at source d (Tight j) ts ≡ Some g →
      read_at source d (Tight (j + 1)) ts ≡ chain (suc d) (suc (suc j)) (read_at source d (Tight j)) (suc d) g.tree g.nest g.rest
  unfolding read_binary
  level_up d j ts g read = rw (add-one, read_binary, read)

  level_fails : (e : ReadError) (d j k : ℕ) (ts : Tokens) (g : GotExpr) → j < k → read_at source d (Tight j) ts ≡ Some g →
      Gives (Err e) (chain (suc d) (suc (suc j)) (read_at source d (Tight j)) (suc d) g.tree g.nest g.rest) → Gives (Err e) (read_at source d (Tight k) ts)
  level_fails (Syntax left) d j k ts g h read none = none_up d (j + 1) k ts (omega arith) (level_up d j ts g read ∙ none)
  level_fails NoMemory d j k ts g h read none = tt

  tightest_fails : (e : ReadError) (d k : ℕ) (ts : Tokens) → Gives (Err e) (read_at source d (Tight 0) ts) → Gives (Err e) (read_at source d (Tight k) ts)
  tightest_fails (Syntax left) d k ts none = none_up d 0 k ts (omega arith) none
  tightest_fails NoMemory d k ts none = tt

  -- the exits of the loop over the levels
  pub first_exit : (r : Result (Read RawExpr) ReadError) {y e : ReadError} (d k : ℕ) (ts : Tokens) → r ≡ Err y → y ≡ e → Gives (Err e) (read_unary source (readers source d).of_expr (readers source d).of_unary ts) → Gives r (read_at source d (Tight k) ts)
  first_exit r {y} {e} d k ts is same none = rw (is, same) (tightest_fails e d k ts (rw (tightest source d 0 ts refl) none))

  pub level_exit : (r : Result (Read RawExpr) ReadError) {y e : ReadError} (d j k : ℕ) (ts : Tokens) (g : GotExpr) → r ≡ Err y → y ≡ e → j < k → read_at source d (Tight j) ts ≡ Some g →
      Gives (Err e) (chain (suc d) (suc (suc j)) (read_at source d (Tight j)) (suc d) g.tree g.nest g.rest) → Gives r (read_at source d (Tight k) ts)
  level_exit r {y} {e} d j k ts g is same h read none = rw (is, same) (level_fails e d j k ts g h read none)

pub err_through : (e : ReadError) (x y : Option GotExpr) → (y ≡ None → x ≡ None) → Gives (Err e) y → Gives (Err e) x
err_through (Syntax left) x y h gives = h gives
err_through NoMemory x y h gives = tt

-- not_less and the turns of a chain
not_less : (i j : ℕ) → j ≤ i → nat_lt i j ≡ false
not_less i j h = grind (arith, nat_tests)

differs : (i j : ℕ) → (i ≡ j → ⊥) → (i == j) ≡ false
differs i j h = grind (arith, nat_tests)

module _ (d k : ℕ) (op : Reader) (a : RawExpr) (n : ℕ) where
  abbrev pub read_on : Tokens → Option GotExpr
  read_on rest = chain (suc d) (suc (suc k)) op (suc d) a n rest

  pub chain_end : (rest : Tokens) → rest ≡ [] → read_on rest ≡ got a n rest
  unfolding chain
  chain_end [] is = refl
  chain_end (t ∷ ts) is = absurd (cc)

  pub chain_other : (rest more : Tokens) (t : Token) (j : ℕ) → rest ≡ t ∷ more → j ≡ joins t.kind → (j ≡ k + 2 → ⊥) → read_on rest ≡ got a n rest
  unfolding chain
  chain_other rest more t j is joined other =
      let apart : (joins t.kind == suc (suc k)) ≡ false = differs (joins t.kind) (suc (suc k)) (λ h. other (omega arith)) in
      rw (is, chain, apart)

  pub chain_none : (rest more : Tokens) (t : Token) (j : ℕ) → rest ≡ t ∷ more → j ≡ joins t.kind → j ≡ k + 2 → op more ≡ None → read_on rest ≡ None
  unfolding chain
  chain_none rest more t j is joined here nothing =
      let together : (joins t.kind == suc (suc k)) ≡ true = same (joins t.kind) (suc (suc k)) (omega arith) in
      rw (is, chain, together, nothing)

  pub chain_deep : (rest more : Tokens) (t : Token) (j : ℕ) (g : GotExpr) → rest ≡ t ∷ more → j ≡ joins t.kind → j ≡ k + 2 → op more ≡ Some g → d < max n g.nest → read_on rest ≡ None
  unfolding chain
  chain_deep rest more t j g is joined here found deep =
      let together : (joins t.kind == suc (suc k)) ≡ true = same (joins t.kind) (suc (suc k)) (omega arith) in
      rw (is, chain, together, found, not_less (max n g.nest) (suc d) (omega arith))

  pub chain_goes : (result : Result (Read RawExpr) ReadError) (rest more : Tokens) (t : Token) (j : ℕ) (m : Mark) (right both : GotExpr) → rest ≡ t ∷ more → j ≡ joins t.kind → j ≡ k + 2 → op more ≡ Some right → max n right.nest ≤ d → m ≡ mark_of t.kind → both ≡ joined m a n right →
      Gives result (chain (suc d) (suc (suc k)) op (suc d) both.tree both.nest both.rest) → Gives result (read_on rest)
  chain_goes result rest more t j m right both is joins_it here found fits mark whole after =
      let turn = chain_turn (suc d) (suc (suc k)) op (suc d) t a right.tree n right.nest more right.rest (omega arith) found (omega arith) (omega arith) in
      let next : both ≡ joined (mark_of t.kind) a n right = whole ∙ ap (λ (q : Mark). joined q a n right) mark in
      rw (is, turn) (subst (λ (g : GotExpr). Gives result (chain (suc d) (suc (suc k)) op (suc d) g.tree g.nest g.rest)) next after)

-- an assignment, once its place and its value are read
by_spot : (depth : ℕ) (whole : Reader) (p : Place) (k : RawExprKind) (m : Mark) (n : ℕ) (ts : Tokens) (g : GotExpr) → whole ts ≡ Some g → assigned_kind depth whole p k m n ts ≡ assigned_spot p m n g (spot_of k)
by_spot depth whole p (e.Read s) m n ts g found = rw found
by_spot depth whole p _ m n ts g found = refl

assigned_on : (depth : ℕ) (whole : Reader) (r : Result (Read RawExpr) ReadError) (a : RawExpr) (n : ℕ) (ts : Tokens) (none : Token) (j : ℕ) (m : Mark) (g : GotExpr) →
    1 ≤ length ts → j ≡ joins (get_or ts 0 none).kind → j ≡ 13 → m ≡ mark_of (get_or ts 0 none).kind → whole (take (length ts - 1) (drop 1 ts)) ≡ Some g → Gives r (assigned_by a m n g) → Gives r (assigned depth whole a n ts)
assigned_on depth whole r a n [] none j m g some joined here mark found gives = absurd (omega (arith, some))
assigned_on depth whole r a n (t ∷ ts) none j m g some joined here mark found gives =
    let all : take (length (t ∷ ts) - 1) ts ≡ ts = take_all _ ts (omega arith) in
    let value : whole ts ≡ Some g = ap whole (sym all) ∙ found in
    let together : (joins t.kind == 13) ≡ true = same (joins t.kind) 13 (omega arith) in
    let step : assigned depth whole a n (t ∷ ts) ≡ assigned_by a m n g =
    rw (mark, together) (by_spot depth whole a.at a.kind (mark_of t.kind) n ts g value)
    in
    subst (λ (x : Option GotExpr). Gives r x) (sym step) gives

pub assigned_goes : (source : List ℕ) (d : ℕ) (r : Result (Read RawExpr) ReadError) (ts : Tokens) (place : GotExpr) (none : Token) (j : ℕ) (m : Mark) (g : GotExpr) →
    read_at source d Cond ts ≡ Some place → 1 ≤ length place.rest → j ≡ joins (get_or place.rest 0 none).kind → j ≡ 13 → m ≡ mark_of (get_or place.rest 0 none).kind →
    (readers source d).of_expr (take (length place.rest - 1) (drop 1 place.rest)) ≡ Some g → Gives r (assigned_by place.tree m place.nest g) → Gives r (read_at source d Whole ts)
assigned_goes source d r ts place none j m g read some joined here mark found gives =
    rw read (assigned_on (suc d) (readers source d).of_expr r place.tree place.nest place.rest none j m g some joined here mark found gives)
