-- Steps of the quads beside steps of an expression, with anything around it.
use Rattle.std.proofs.Common.{◌≡◌, refl, sym, ◌∙◌, ap, subst, arith, ℕ, suc, ◌+◌, ◌≤◌, List, [], ◌∷◌, Some}
use Rattle.xmt_base.specs.declared.values.TrapKind.{TrapKind}
use Rattle.xmt_base.specs.Action.{Action}
use Rattle.interleaving.specs.Parts.{takes_reply}
use Rattle.source_meaning.specs.Store.{Cell, Store}
use Rattle.source_meaning.specs.Term.{Target, Term}
use Rattle.source_meaning.specs.Run.{store_after}
use Rattle.source_meaning.specs.Next.{Ask, Next, Is, Asks, Traps, next_within, next, next_target}
use Rattle.source_meaning.specs.Trace.{action_of, reply_to, step_of}
use Rattle.std.specs.Prelude.{true, false}
use Rattle.xmt_quads.specs.declared.code.Quad.{Quad}
use Rattle.xmt_quads.specs.declared.code.Quad.TheVariants as quad
use Rattle.xmt_quads.specs.Program.{quad_at, line_at, weight, is_spawn}
use Rattle.xmt_quads.specs.Meaning.{QuadThread, Moves, Traps as Trapping, next_at, goes, acts}
use Rattle.quad_laws.proofs.Keeps.{Keeps, keeps_less, keeps_beside, keeps_alone, keeps_still, keeps_tells, keeps_told}
use Rattle.quad_code.proofs.Setting.{Setting, Point, AtSpawn, StandsAs, IsOver, thread_at, moves, costs, next_is, moves_as, costs_as, lives}

-- a part of a part is a part of the whole
pub within_within : {T R V Q U S : Type 0} (inner : T → V) (around : V → U) (n : Next T R) (go1 : R → Next V Q) (go : Q → Next U S) → next_within around (next_within inner n go1) go ≡ next_within (λ t. around (inner t)) n (λ v. next_within around (go1 v) go)
within_within inner around (Is result) go1 go = refl
within_within inner around (Asks ask left) go1 go = refl
within_within inner around (Traps kind line) go1 go = refl

-- a quad that moves, and is no spawn, stands as whatever the source does
pub stands_as : (s : Setting) {U S : Type 0} (at : ℕ) (q : Quad) (p : Point) (n : Next U S) (m : _) → quad_at s.program s.function at ≡ Some q → is_spawn q ≡ 0 → next_at s.program (thread_at s at p) (Some q) ≡ Moves m → StandsAs (AtSpawn s) s.program (thread_at s at p) p.store n
stands_as s at q p n m here plain moving =
    record {
      traps = λ kind is. absurd (no_trap kind (sym (next_is s at q p here ∙ moving) ∙ is));
      spawns = λ low high is. absurd (no_spawn q (quad.Spawn low high) (sym here ∙ is) plain refl);
    }
  where
    no_trap : (kind : TrapKind) → Moves m ≡ Trapping kind → ⊥
    no_trap kind is = cc

    no_spawn : (a b : Quad) → Some a ≡ Some b → is_spawn a ≡ 0 → is_spawn b ≡ 1 → ⊥
    no_spawn a b same none some = cc

module _ (s : Setting) {U S : Type 0} (whole : U → Next U S) where
  -- what stands around an expression of the call, and how the whole goes on once that has its value
  pub record Context : Type 0 where
    pub around : Term → U
    pub go : ℕ → Next U S
    pub part : (e : Term) → whole (around e) ≡ next_within around (next s.number s.call_code s.depth e) go

  pub record TargetContext : Type 0 where
    pub around : Target → U
    pub go : Cell → Next U S
    pub part : (p : Target) → whole (around p) ≡ next_within around (next_target s.number s.call_code s.depth p) go

  -- an operand in its expression
  abbrev pub operand_in : (c : Context) (inner : Term → Term) (go : ℕ → Next Term ℕ) → ((e : Term) → next s.number s.call_code s.depth (inner e) ≡ next_within inner (next s.number s.call_code s.depth e) go) → Context
  operand_in c inner go part =
      record {
        around = λ e. c.around (inner e);
        go = λ v. next_within c.around (go v) c.go;
        part = λ e. c.part (inner e) ∙ ap (λ n. next_within c.around n c.go) (part e) ∙ within_within inner c.around (next s.number s.call_code s.depth e) go c.go;
      }

  -- a place in its expression
  abbrev pub target_in : (c : Context) (inner : Target → Term) (go : Cell → Next Term ℕ) → ((p : Target) → next s.number s.call_code s.depth (inner p) ≡ next_within inner (next_target s.number s.call_code s.depth p) go) → TargetContext
  target_in c inner go part =
      record {
        around = λ p. c.around (inner p);
        go = λ cell. next_within c.around (go cell) c.go;
        part = λ p. c.part (inner p) ∙ ap (λ n. next_within c.around n c.go) (part p) ∙ within_within inner c.around (next_target s.number s.call_code s.depth p) go c.go;
      }

  -- an index in its place
  abbrev pub index_in : (c : TargetContext) (inner : Term → Target) (go : ℕ → Next Target Cell) → ((e : Term) → next_target s.number s.call_code s.depth (inner e) ≡ next_within inner (next s.number s.call_code s.depth e) go) → Context
  index_in c inner go part =
      record {
        around = λ e. c.around (inner e);
        go = λ v. next_within c.around (go v) c.go;
        part = λ e. c.part (inner e) ∙ ap (λ n. next_within c.around n c.go) (part e) ∙ within_within inner c.around (next s.number s.call_code s.depth e) go c.go;
      }

  -- from a thread of the quads on, they keep to this code
  abbrev pub KeepsTo : (n credit : ℕ) → QuadThread → U → Store → Type 0
  KeepsTo n credit t code store = Keeps (moves s) (costs s) IsOver (StandsAs (AtSpawn s) s.program) whole n credit t code store

  abbrev pub keeps_fewer : (n m credit more : ℕ) (t : QuadThread) (code : U) (store : Store) → m ≤ n → credit ≤ more → KeepsTo n credit t code store → KeepsTo m more t code store
  keeps_fewer = keeps_less (moves s) (costs s) IsOver (StandsAs (AtSpawn s) s.program) whole

  -- the quads from this position on keep to this code
  abbrev pub Meets : (code : U) (n credit at : ℕ) → Point → Type 0
  Meets code n credit at p = n ≤ s.most → KeepsTo n credit (thread_at s at p) code p.store

  pub meets_at : (code : U) (n credit at to : ℕ) (p : Point) → at ≡ to → Meets code n credit at p → Meets code n credit to p
  meets_at code n credit at to p e m = subst (λ at. Meets code n credit at p) e m

  -- a run of one quad more is one of as many
  pub one_less : (n credit at : ℕ) (p : Point) (code : U) → KeepsTo (suc n) credit (thread_at s at p) code p.store → KeepsTo n credit (thread_at s at p) code p.store
  one_less n credit at p code k = keeps_fewer (suc n) n credit credit (thread_at s at p) code p.store (omega arith) (omega arith) k

  -- a quad and a step of the source, into any thread and code
  pub beside : (n credit left at : ℕ) (q : Quad) (p : Point) (t : QuadThread) (code code' : U) (store : Store) → quad_at s.program s.function at ≡ Some q → is_spawn q ≡ 0 → next_at s.program (thread_at s at p) (Some q) ≡ goes t →
      ((replies : List ℕ) → step_of p.store replies (whole code) ≡ Some ([], record { code = code'; store = store; replies = replies })) → left + weight q ≤ credit + 64 → KeepsTo n left t code' store → KeepsTo (suc n) credit (thread_at s at p) code p.store
  beside n credit left at q p t code code' store here plain does steps pays k =
      keeps_beside (moves s) (costs s) IsOver (StandsAs (AtSpawn s) s.program) whole n credit left (thread_at s at p) t code code' p.store store (lives s at p)
      (stands_as s at q p (whole code) _ here plain does) (moves_as s at q p here (goes t) does) steps (omega (arith, pays, costs_as s at q p here)) k

  -- the same to a position of the call
  pub both : (n credit left at to : ℕ) (q : Quad) (p p' : Point) (code code' : U) → quad_at s.program s.function at ≡ Some q → is_spawn q ≡ 0 → next_at s.program (thread_at s at p) (Some q) ≡ goes (thread_at s to p') →
      ((replies : List ℕ) → step_of p.store replies (whole code) ≡ Some ([], record { code = code'; store = p'.store; replies = replies })) → left + weight q ≤ credit + 64 → Meets code' n left to p' → Meets code n credit at p
  both n credit left at to q p p' code code' here plain does steps pays m =
      λ few. one_less n credit at p code (beside n credit left at q p (thread_at s to p') code code' p'.store here plain does steps pays (m few))

  -- a quad alone
  pub alone : (n credit left at to : ℕ) (q : Quad) (p p' : Point) (code : U) → quad_at s.program s.function at ≡ Some q → is_spawn q ≡ 0 → next_at s.program (thread_at s at p) (Some q) ≡ goes (thread_at s to p') → p.store ≡ p'.store → left + weight q ≤ credit → Meets code n left to p' → Meets code n credit at p
  alone n credit left at to q p p' code here plain does same pays m =
      λ few.
      one_less n credit at p code
      (keeps_alone (moves s) (costs s) IsOver (StandsAs (AtSpawn s) s.program) whole n credit left (thread_at s at p) (thread_at s to p') code p.store (lives s at p)
      (stands_as s at q p (whole code) _ here plain does) (moves_as s at q p here (goes (thread_at s to p')) does) (omega (arith, pays, costs_as s at q p here))
      (subst (λ store. KeepsTo n left (thread_at s to p') code store) (sym same) (m few)))

  -- both stand at the same trap
  pub trapped : (n credit at line : ℕ) (kind : TrapKind) (q : Quad) (p : Point) (code : U) → quad_at s.program s.function at ≡ Some q → is_spawn q ≡ 0 → line_at s.program s.function at ≡ line → next_at s.program (thread_at s at p) (Some q) ≡ Trapping kind → whole code ≡ Traps kind line → Meets code n credit at p
  trapped n credit at line kind q p code here plain lined does stands =
      λ few.
      keeps_still (moves s) (costs s) IsOver (StandsAs (AtSpawn s) s.program) whole n credit (thread_at s at p) code p.store (moves_as s at q p here (Trapping kind) does) (λ over. absurd (lives s at p over))
      (record {
        traps = λ other is. stands ∙ ap (λ l. Traps kind l) (sym lined) ∙ ap (λ k. Traps k (line_at s.program s.function at)) (same_kind other (sym (next_is s at q p here ∙ does) ∙ is));
        spawns = λ low high is. absurd (no_spawn q (quad.Spawn low high) (sym here ∙ is) plain refl);
      })
    where
      same_kind : (other : TrapKind) → Trapping kind ≡ Trapping other → kind ≡ other
      same_kind other is = cc

      no_spawn : (a b : Quad) → Some a ≡ Some b → is_spawn a ≡ 0 → is_spawn b ≡ 1 → ⊥
      no_spawn a b same none some = cc

  -- an action of both that takes no reply
  pub tells : (n credit left at : ℕ) (q : Quad) (act : Action) (p : Point) (t : ℕ → QuadThread) (code : U) (ask : Ask) (leads : ℕ → U) → quad_at s.program s.function at ≡ Some q → is_spawn q ≡ 0 → next_at s.program (thread_at s at p) (Some q) ≡ acts act t →
      whole code ≡ Asks ask leads → action_of ask ≡ act ∷ [] → takes_reply act ≡ false → ((replies : List ℕ) → reply_to p.store replies ask ≡ Some (0, replies)) → left + weight q ≤ credit + 64 →
      ((reply : ℕ) → n ≤ s.most → KeepsTo n left (t reply) (leads 0) (store_after p.store ask)) → Meets code n credit at p
  tells n credit left at q act p t code ask leads here plain does asks seen none replied pays m =
      λ few.
      one_less n credit at p code
      (keeps_tells (moves s) (costs s) IsOver (StandsAs (AtSpawn s) s.program) whole n credit left (thread_at s at p) code p.store (lives s at p)
      (stands_as s at q p (whole code) _ here plain does) act t (moves_as s at q p here (acts act t) does) ask leads asks seen none replied (omega (arith, pays, costs_as s at q p here)) (λ reply. m reply few))

  -- a load or an add of both
  pub asked : (n credit left at to : ℕ) (q : Quad) (act : Action) (p : Point) (got : ℕ → Point) (code : U) (ask : Ask) (leads : ℕ → U) → quad_at s.program s.function at ≡ Some q → is_spawn q ≡ 0 → next_at s.program (thread_at s at p) (Some q) ≡ acts act (λ reply. thread_at s to (got reply)) →
      whole code ≡ Asks ask leads → action_of ask ≡ act ∷ [] → takes_reply act ≡ true → ((reply : ℕ) (replies : List ℕ) → reply_to p.store (reply ∷ replies) ask ≡ Some (reply, replies)) → left + weight q ≤ credit + 64 →
      ((reply : ℕ) → (got reply).store ≡ store_after p.store ask) → ((reply : ℕ) → Meets (leads reply) n left to (got reply)) → Meets code n credit at p
  asked n credit left at to q act p got code ask leads here plain does asks seen takes replied pays stores m =
      λ few.
      one_less n credit at p code
      (keeps_told (moves s) (costs s) IsOver (StandsAs (AtSpawn s) s.program) whole n credit left (thread_at s at p) code p.store (lives s at p)
      (stands_as s at q p (whole code) _ here plain does) act (λ reply. thread_at s to (got reply)) (moves_as s at q p here (acts act (λ reply. thread_at s to (got reply))) does) ask leads asks seen takes replied (omega (arith, pays, costs_as s at q p here))
      (λ reply. subst (λ store. KeepsTo n left (thread_at s to (got reply)) (leads reply) store) (stores reply) (m reply few)))
