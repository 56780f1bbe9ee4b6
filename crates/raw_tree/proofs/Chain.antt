-- A chain of binary marks, as it is read.
use Rattle.std.proofs.Common.{◌≡◌, ℕ, zero, suc, max, ◌+◌, ◌<◌, ◌≤◌, true, false, nat_lt, ◌==◌, cond, [], ◌∷◌, Option, Some, None, refl, sym, arith}
use Rattle.std.proofs.lemmas.Bool.Decides.{nat_tests}
use Rattle.xmt_lex.specs.declared.Token.{Token}
use Rattle.raw_tree.specs.declared.tree.RawExpr.{RawExpr}
use Rattle.raw_tree.specs.declared.tree.RawExprKind.TheVariants as e
use Rattle.raw_tree.specs.Level.{Tokens, joins, Stops}
use Rattle.raw_tree.specs.Grammar.{node}
use Rattle.raw_tree.specs.Reading.{Reader, GotExpr, got, chain, mark_of}

-- a test that fails
pub above : (j l : ℕ) → l < j → (j == l) ≡ false
above j l h = grind (arith, nat_tests)

pub same : (j l : ℕ) → j ≡ l → (j == l) ≡ true
same j l h = grind (arith, nat_tests)

pub below : (i j : ℕ) → i < j → nat_lt i j ≡ true
below i j h = grind (arith, nat_tests)

not_below : (i j : ℕ) → j ≤ i → nat_lt i j ≡ false
not_below i j h = grind (arith, nat_tests)

-- where nothing of the level follows, the tree is what was read
pub chain_stops : (depth l : ℕ) (op : Reader) (turns : ℕ) (a : RawExpr) (n : ℕ) (r : Tokens) → Stops l r → chain depth l op turns a n r ≡ got a n r
unfolding chain
chain_stops depth l op turns a n [] h = refl
chain_stops depth l op zero a n (t ∷ ts) h = rw (above (joins t.kind) l h)
chain_stops depth l op (suc turns) a n (t ∷ ts) h = rw (above (joins t.kind) l h)

-- one turn
module _ (depth l : ℕ) (op : Reader) where
  abbrev next_tree : Token → RawExpr → RawExpr → RawExpr
  next_tree t a b = node a.at (e.Binary (mark_of t.kind) a b)

  abbrev go : (RawExpr → ℕ → Tokens → Option GotExpr) → Token → RawExpr → ℕ → Option GotExpr → Option GotExpr
  go more t a n answer = elim answer [
    | None ↦ None
    | Some g ↦ elim (nat_lt (max n g.nest) depth) [
      | true ↦ more (next_tree t a g.tree) (suc (max n g.nest)) g.rest
      | false ↦ None
    ]
  ]

  go_same : (more other : RawExpr → ℕ → Tokens → Option GotExpr) (t : Token) (a : RawExpr) (n : ℕ) →
      ((b : RawExpr) (k : ℕ) (ts : Tokens) → n < k → more b k ts ≡ other b k ts) → (answer : Option GotExpr) → go more t a n answer ≡ go other t a n answer
  go_same more other t a n agree None = refl
  go_same more other t a n agree (Some g) =
      elim (nat_lt (max n g.nest) depth) as (λ v. elim v [ true ↦ more (next_tree t a g.tree) (suc (max n g.nest)) g.rest | false ↦ None ] ≡ elim v [ true ↦ other (next_tree t a g.tree) (suc (max n g.nest)) g.rest | false ↦ None ])
      [ true ↦ agree _ (suc (max n g.nest)) g.rest (omega arith) | false ↦ refl ]

  go_none : (more : RawExpr → ℕ → Tokens → Option GotExpr) (t : Token) (a : RawExpr) (n : ℕ) → depth ≤ n → (answer : Option GotExpr) → go more t a n answer ≡ None
  go_none more t a n h None = refl
  go_none more t a n h (Some g) = rw (go, not_below (max n g.nest) depth (omega arith))

  -- enough turns are as good as more
  pub chain_enough : (f g : ℕ) (a : RawExpr) (n : ℕ) (ts : Tokens) → depth ≤ f + n → depth ≤ g + n → chain depth l op f a n ts ≡ chain depth l op g a n ts
  unfolding chain
  chain_enough f g a n [] hf hg = refl
  chain_enough zero zero a n (t ∷ ts) hf hg = refl
  chain_enough zero (suc g) a n (t ∷ ts) hf hg =
      elim (joins t.kind == l) as (λ v. cond v None (got a n (t ∷ ts)) ≡ cond v (go (chain depth l op g) t a n (op ts)) (got a n (t ∷ ts)))
      [ true ↦ sym (go_none (chain depth l op g) t a n (omega arith) (op ts)) | false ↦ refl ]
  chain_enough (suc f) zero a n (t ∷ ts) hf hg =
      elim (joins t.kind == l) as (λ v. cond v (go (chain depth l op f) t a n (op ts)) (got a n (t ∷ ts)) ≡ cond v None (got a n (t ∷ ts)))
      [ true ↦ go_none (chain depth l op f) t a n (omega arith) (op ts) | false ↦ refl ]
  chain_enough (suc f) (suc g) a n (t ∷ ts) hf hg =
      elim (joins t.kind == l) as (λ v. cond v (go (chain depth l op f) t a n (op ts)) (got a n (t ∷ ts)) ≡ cond v (go (chain depth l op g) t a n (op ts)) (got a n (t ∷ ts)))
      [ true ↦ go_same (chain depth l op f) (chain depth l op g) t a n (λ b k us h. chain_enough f g b k us (omega arith) (omega arith)) (op ts) | false ↦ refl ]

  -- one turn
  pub chain_turn : (f : ℕ) (t : Token) (a b : RawExpr) (n m : ℕ) (ts rest : Tokens) → joins t.kind ≡ l → op ts ≡ got b m rest → max n m < depth → depth ≤ f + n →
      chain depth l op f a n (t ∷ ts) ≡ chain depth l op f (next_tree t a b) (suc (max n m)) rest
  unfolding chain
  chain_turn zero t a b n m ts rest is reads fits enough = absurd (omega arith)
  chain_turn (suc f) t a b n m ts rest is reads fits enough =
      rw (chain, same (joins t.kind) l is, reads, below (max n m) depth fits) (chain_enough f (suc f) _ (suc (max n m)) rest (omega arith) (omega arith))
