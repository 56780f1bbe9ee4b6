-- Behind a spawn comes its join.
use Rattle.std.proofs.Common.{◌≡◌, refl, ◌∙◌, ap, ℕ, suc, ◌+◌, nat_lt, Bool, true, false, if◌then◌else◌, List, ◌∷◌, Option, Some, None}
use Rattle.xmt_base.specs.declared.values.TrapKind.TheVariants.{Index, CallDepth, PsIncrement}
use Rattle.xmt_base.specs.Operators.{binary_value}
use Rattle.source_meaning.specs.declared.tree.Program.{Program}
use Rattle.source_meaning.specs.Store.{Cell, Word}
use Rattle.source_meaning.specs.Term.{Target, At, Element, Term, Value, Dollar, Read, Assign, Update, Step, Postfix, Unary, Binary, Both, Either, Choose, Call, Entered, Terms, End, More, Code, Done, Then, Expression, Set, Block, If, While, Do, For, Turn, Break, Continue, Return, Spawn, Join, PrefixSum, Add, Print}
use Rattle.source_meaning.specs.Next.{Ask, Quietly, Loading, Storing, Adding, Printing, Spawning, Joining, Ending, Next, Is, Asks, Traps, quiet_step, next_within, Exit, Ends, Returns, Breaks, Continues, next_after, next_after_turn, operator_step, test_step, may_add, next_target, next, next_values, next_code}
use Rattle.source_meaning.specs.Code.{call_code}
use Rattle.source_meaning.specs.Run.{next_of_rest}

-- where this is a spawn, the join of its threads comes next
abbrev pub JoinsNext : {T R : Type 0} → (T → Next T R) → Next T R → Type 0
JoinsNext {T} {R} next (Asks (Spawning site low high block) left) = (reply : ℕ) → (behind : ℕ → T) × (next (left reply) ≡ Asks Joining behind)
JoinsNext next _ = Unit {0}

module _ {T R U S : Type 0} (next : T → Next T R) (next' : U → Next U S) (around : T → U) (go : R → Next U S) (part : (x : T) → next' (around x) ≡ next_within around (next x) go) where
  by_ask : (ask : Ask) (left : ℕ → T) → JoinsNext next (Asks ask left) → JoinsNext next' (Asks ask (λ reply. around (left reply)))
  by_ask Quietly left h = tt
  by_ask (Loading cell) left h = tt
  by_ask (Storing cell v) left h = tt
  by_ask (Adding cell v) left h = tt
  by_ask (Printing text) left h = tt
  by_ask Joining left h = tt
  by_ask Ending left h = tt
  by_ask (Spawning site low high block) left h = λ reply. ((λ r. around ((h reply).0 r)), part (left reply) ∙ ap (λ n. next_within around n go) (h reply).1)

  joins_within : (n : Next T R) → JoinsNext next n → ((r : R) → JoinsNext next' (go r)) → JoinsNext next' (next_within around n go)
  joins_within (Is result) h goes = goes result
  joins_within (Traps kind line) h goes = tt
  joins_within (Asks ask left) h goes = by_ask ask left h

module _ (number : ℕ) (call : (function depth : ℕ) → List ℕ → Code) where
  joins_test : (depth line base length index : ℕ) → JoinsNext (next_target number call depth) (test_step line base length index)
  joins_test depth line base length index = by_test (nat_lt index length)
    where
      by_test : (b : Bool) → JoinsNext (next_target number call depth) (if b then quiet_step (At (Word (base + index))) else Traps Index line)
      by_test true = tt
      by_test false = tt

  joins_operator : (depth line : ℕ) (v : Option ℕ) → JoinsNext (next number call depth) (operator_step line v)
  joins_operator depth line None = tt
  joins_operator depth line (Some v) = tt

  joins_call : (b : Bool) (depth line function : ℕ) (values : List ℕ) → JoinsNext (next number call depth) (if b then quiet_step (Entered (call function (suc depth) values)) else Traps CallDepth line)
  joins_call true depth line function values = tt
  joins_call false depth line function values = tt

  joins_after : (depth : ℕ) (exit : Exit) (go : Next Code Exit) → JoinsNext (next_code number call depth) go → JoinsNext (next_code number call depth) (next_after exit go)
  joins_after depth Ends go h = h
  joins_after depth (Returns v) go h = tt
  joins_after depth Breaks go h = tt
  joins_after depth Continues go h = tt

  joins_after_turn : (depth : ℕ) (exit : Exit) (again : Code) (go : Next Code Exit) → JoinsNext (next_code number call depth) go → JoinsNext (next_code number call depth) (next_after_turn exit again go)
  joins_after_turn depth Ends again go g = g
  joins_after_turn depth (Returns v) again go g = tt
  joins_after_turn depth Breaks again go g = tt
  joins_after_turn depth Continues again go g = tt

  joins_add : (b : Bool) (depth line increment : ℕ) (variable cell : Cell) → JoinsNext (next_code number call depth) (if b then Asks (Adding cell increment) (λ old. Set (At variable) (Value old)) else Traps PsIncrement line)
  joins_add true depth line increment variable cell = tt
  joins_add false depth line increment variable cell = tt

  mutual
    joins_target : (depth : ℕ) (p : Target) → JoinsNext (next_target number call depth) (next_target number call depth p)
    joins_target depth (At cell) = tt
    joins_target depth (Element line base length index) = joins_within (next number call depth) (next_target number call depth) (Element line base length) (test_step line base length) (λ x. refl) (next number call depth index) (joins_next depth index) (λ v. joins_test depth line base length v)

    joins_next : (depth : ℕ) (e : Term) → JoinsNext (next number call depth) (next number call depth e)
    joins_next depth (Value v) = tt
    joins_next depth Dollar = tt
    joins_next depth (Read p) = joins_within (next_target number call depth) (next number call depth) Read (λ cell. Asks (Loading cell) Value) (λ x. refl) (next_target number call depth p) (joins_target depth p) (λ cell. tt)
    joins_next depth (Assign p e) =
        joins_within (next_target number call depth) (next number call depth) (λ p. Assign p e) (λ cell. next_within (Assign (At cell)) (next number call depth e) (λ v. Asks (Storing cell v) (λ _. Value v))) (λ x. refl) (next_target number call depth p) (joins_target depth p) (λ cell.
        joins_within (next number call depth) (next number call depth) (Assign (At cell)) (λ v. Asks (Storing cell v) (λ _. Value v)) (λ x. refl) (next number call depth e) (joins_next depth e) (λ v. tt))
    joins_next depth (Update line op p e) =
        joins_within (next_target number call depth) (next number call depth) (λ p. Update line op p e) (λ cell. Asks (Loading cell) (λ old. Assign (At cell) (Binary line op (Value old) e))) (λ x. refl) (next_target number call depth p) (joins_target depth p) (λ cell. tt)
    joins_next depth (Step up after p) =
        joins_within (next_target number call depth) (next number call depth) (Step up after) _ (λ x. refl) (next_target number call depth p) (joins_target depth p) (λ cell. tt)
    joins_next depth (Postfix cell old e) =
        joins_within (next number call depth) (next number call depth) (Postfix cell old) (λ v. Asks (Storing cell v) (λ _. Value old)) (λ x. refl) (next number call depth e) (joins_next depth e) (λ v. tt)
    joins_next depth (Unary op e) = joins_within (next number call depth) (next number call depth) (Unary op) _ (λ x. refl) (next number call depth e) (joins_next depth e) (λ v. tt)
    joins_next depth (Binary line op a b) =
        joins_within (next number call depth) (next number call depth) (λ a. Binary line op a b) (λ x. next_within (Binary line op (Value x)) (next number call depth b) (λ y. operator_step line (binary_value op x y))) (λ x. refl) (next number call depth a) (joins_next depth a) (λ x.
        joins_within (next number call depth) (next number call depth) (Binary line op (Value x)) (λ y. operator_step line (binary_value op x y)) (λ z. refl) (next number call depth b) (joins_next depth b) (λ y. joins_operator depth line (binary_value op x y)))
    joins_next depth (Both a b) = joins_within (next number call depth) (next number call depth) (λ a. Both a b) _ (λ x. refl) (next number call depth a) (joins_next depth a) (λ v. tt)
    joins_next depth (Either a b) = joins_within (next number call depth) (next number call depth) (λ a. Either a b) _ (λ x. refl) (next number call depth a) (joins_next depth a) (λ v. tt)
    joins_next depth (Choose test a b) = joins_within (next number call depth) (next number call depth) (λ test. Choose test a b) _ (λ x. refl) (next number call depth test) (joins_next depth test) (λ v. tt)
    joins_next depth (Call line function values) =
        joins_within (next_values number call depth) (next number call depth) (Call line function) (λ vs. if nat_lt depth 256 then quiet_step (Entered (call function (suc depth) vs)) else Traps CallDepth line) (λ x. refl) (next_values number call depth values) (joins_values depth values) (λ vs. joins_call (nat_lt depth 256) depth line function vs)
    joins_next depth (Entered body) = joins_within (next_code number call (suc depth)) (next number call depth) Entered _ (λ x. refl) (next_code number call (suc depth) body) (joins_code (suc depth) body) (λ exit. tt)

    joins_values : (depth : ℕ) (values : Terms) → JoinsNext (next_values number call depth) (next_values number call depth values)
    joins_values depth End = tt
    joins_values depth (More e rest) =
        joins_within (next number call depth) (next_values number call depth) (λ e. More e rest) (λ v. next_within (More (Value v)) (next_values number call depth rest) (λ vs. Is (v ∷ vs))) (λ x. refl) (next number call depth e) (joins_next depth e) (λ v.
        joins_within (next_values number call depth) (next_values number call depth) (More (Value v)) (λ vs. Is (v ∷ vs)) (λ x. refl) (next_values number call depth rest) (joins_values depth rest) (λ vs. tt))

    joins_code : (depth : ℕ) (code : Code) → JoinsNext (next_code number call depth) (next_code number call depth code)
    joins_code depth Done = tt
    joins_code depth (Then a b) = joins_within (next_code number call depth) (next_code number call depth) (λ a. Then a b) (λ exit. next_after exit (next_code number call depth b)) (λ x. refl) (next_code number call depth a) (joins_code depth a) (λ exit. joins_after depth exit (next_code number call depth b) (joins_code depth b))
    joins_code depth (Expression e) = joins_within (next number call depth) (next_code number call depth) Expression _ (λ x. refl) (next number call depth e) (joins_next depth e) (λ v. tt)
    joins_code depth (Set p e) =
        joins_within (next_target number call depth) (next_code number call depth) (λ p. Set p e) (λ cell. next_within (Set (At cell)) (next number call depth e) (λ v. Asks (Storing cell v) (λ _. Done))) (λ x. refl) (next_target number call depth p) (joins_target depth p) (λ cell.
        joins_within (next number call depth) (next_code number call depth) (Set (At cell)) (λ v. Asks (Storing cell v) (λ _. Done)) (λ x. refl) (next number call depth e) (joins_next depth e) (λ v. tt))
    joins_code depth (Block body) = joins_within (next_code number call depth) (next_code number call depth) Block (λ exit. next_after exit (quiet_step Done)) (λ x. refl) (next_code number call depth body) (joins_code depth body) (λ exit. joins_after depth exit (quiet_step Done) tt)
    joins_code depth (If test a b) = joins_within (next number call depth) (next_code number call depth) (λ test. If test a b) _ (λ x. refl) (next number call depth test) (joins_next depth test) (λ v. tt)
    joins_code depth (While test body) = tt
    joins_code depth (Do body test) = tt
    joins_code depth (For test third body) = tt
    joins_code depth (Turn body again) = joins_within (next_code number call depth) (next_code number call depth) (λ body. Turn body again) (λ exit. next_after_turn exit again (next_code number call depth again)) (λ x. refl) (next_code number call depth body) (joins_code depth body) (λ exit. joins_after_turn depth exit again (next_code number call depth again) (joins_code depth again))
    joins_code depth Break = tt
    joins_code depth Continue = tt
    joins_code depth (Return e) = joins_within (next number call depth) (next_code number call depth) Return (λ v. Is (Returns v)) (λ x. refl) (next number call depth e) (joins_next depth e) (λ v. tt)
    joins_code depth (Spawn site low high block) =
        joins_within (next number call depth) (next_code number call depth) (λ low. Spawn site low high block) (λ l. next_within (λ high. Spawn site (Value l) high block) (next number call depth high) (λ h. Asks (Spawning site l h block) (λ _. Join))) (λ x. refl) (next number call depth low) (joins_next depth low) (λ l.
        joins_within (next number call depth) (next_code number call depth) (λ high. Spawn site (Value l) high block) (λ h. Asks (Spawning site l h block) (λ _. Join)) (λ x. refl) (next number call depth high) (joins_next depth high) (λ h reply. ((λ r. Done), refl)))
    joins_code depth Join = tt
    joins_code depth (PrefixSum line v p) = joins_within (next_target number call depth) (next_code number call depth) (λ v. PrefixSum line v p) _ (λ x. refl) (next_target number call depth v) (joins_target depth v) (λ cell. tt)
    joins_code depth (Add line variable p increment) =
        joins_within (next_target number call depth) (next_code number call depth) (λ p. Add line variable p increment) (λ cell. if may_add cell increment then Asks (Adding cell increment) (λ old. Set (At variable) (Value old)) else Traps PsIncrement line) (λ x. refl) (next_target number call depth p) (joins_target depth p) (λ cell. joins_add (may_add cell increment) depth line increment variable cell)
    joins_code depth (Print text values) = joins_within (next_values number call depth) (next_code number call depth) (Print text) _ (λ x. refl) (next_values number call depth values) (joins_values depth values) (λ vs. tt)

-- a thread that spawns joins next
pub joins_rest : (program : Program) (t number : ℕ) (code : Option Code) → JoinsNext (next_of_rest program t number) (next_of_rest program t number code)
joins_rest program t number None = tt
joins_rest program t number (Some code) =
    joins_within (next_code number (call_code program t) 0) (next_of_rest program t number) Some (λ exit. Asks Ending (λ _. None)) (λ x. refl) (next_code number (call_code program t) 0 code) (joins_code number (call_code program t) 0 code) (λ exit. tt)
