-- What it says that the quads of a statement keep to the source, and the statements without a loop.
use Rattle.quad_code.specs.Known.{SequenceKnown, StatementKnown, all_declared, declared}
use Rattle.std.proofs.Common.{◌≡◌, refl, ◌∙◌, ap, arith, ℕ, ◌+◌, ◌≤◌, ◌<◌, ◌⊎◌, true, false, List, ◌++◌, length, length-append, Some, inl, inr}
use Rattle.std.specs.Prelude.{Bool, ◌==◌, nat_lt, ◌&&◌, ◌||◌}
use Rattle.xmt_base.specs.declared.values.Place.{Place}
use Rattle.source_meaning.specs.declared.tree.StmtKind.{StmtKind, Row_of-Stmt, end_of-Stmt, more_of-Stmt}
use Rattle.source_meaning.specs.declared.tree.StmtKind.TheVariants as stmt
use Rattle.source_meaning.specs.Term.{Term, Code, Then}
use Rattle.source_meaning.specs.Next.{Next, Asks, Quietly, Exit, Ends, Returns, Breaks, Continues, next_within, next_after, next, next_code}
use Rattle.source_meaning.specs.Trace.{step_of}
use Rattle.source_meaning.specs.Code.{code_of, sequence, spawns}
use Rattle.xmt_quads.specs.declared.code.Operand.{Operand}
use Rattle.xmt_quads.specs.declared.code.Quad.TheVariants as quad
use Rattle.xmt_quads.specs.Meaning.{operand_value}
use Rattle.xmt_quads.specs.Program.{quad_at}
use Rattle.quad_code.specs.Lined.{Lined}
use Rattle.quad_code.specs.Statements.{Counts, behind, statement_at, sequence_at}
use Rattle.quad_laws.proofs.Keeps.{keeps_source, keeps_same}
use Rattle.quad_code.proofs.Setting.{Setting, Point, AtSpawn, StandsAs, IsOver, thread_at, moves, costs, Stands, has_front, has_back, Fits, Reaches, reaches_on, reaches_here}
use Rattle.quad_code.proofs.Steps.{Context, within_within, Meets, meets_at}
use Rattle.quad_code.proofs.Kept.{richer}

-- ---- the variables that are known behind a statement

or_cases : (a b : Bool) → (a || b) ≡ true → (a ≡ true) ⊎ (b ≡ true)
or_cases true b h = inl refl
or_cases false b h = inr h

and_parts : (a b : Bool) → (a && b) ≡ true → (a ≡ true) × (b ≡ true)
and_parts true b h = (refl, h)
and_parts false b h = cc

is_declared : (v slot x : ℕ) → ((x == slot) && nat_lt x v) ≡ true → (x ≡ slot) × (x < v)
is_declared v slot x h =
    let parts = and_parts (x == slot) (nat_lt x v) h in
    (grind (arith, parts.0), grind (arith, parts.1))

-- a variable that is known behind a declaration was known before, or is the declared one
pub declared_cases : (v : ℕ) (known : ℕ → Bool) (slot x : ℕ) → (known x || ((x == slot) && nat_lt x v)) ≡ true → (known x ≡ true) ⊎ ((x ≡ slot) × (x < v))
declared_cases v known slot x h = elim (or_cases (known x) ((x == slot) && nat_lt x v) h) [ inl is ↦ inl is | inr is ↦ inr (is_declared v slot x is) ]

pub slot_low : (s : Setting) (slot x : ℕ) → (s.known x || ((x == slot) && nat_lt x s.variables)) ≡ true → x < s.variables
slot_low s slot x h = elim (declared_cases s.variables s.known slot x h) [ inl is ↦ s.known_low x is | inr is ↦ is.1 ]

abbrev pub declared_low : (s : Setting) (k : StmtKind) (x : ℕ) → declared s.variables s.known k x ≡ true → x < s.variables
declared_low s (stmt.Declare slot value) x h = slot_low s slot x h
declared_low s _ x h = s.known_low x h

-- the setting behind a statement, and behind several
abbrev pub after : Setting → StmtKind → Setting
after s k = record s { known = declared s.variables s.known k; known_low = declared_low s k }

abbrev pub all_low : (s : Setting) {n : _} (row : Row_of-Stmt n) (x : ℕ) → all_declared s.variables s.known row x ≡ true → x < s.variables
all_low s end_of-Stmt x h = s.known_low x h
all_low s (more_of-Stmt place kind rest) x h = all_low (after s kind) rest x h

abbrev pub after_all : Setting → {n : _} → Row_of-Stmt n → Setting
after_all s row = record s { known = all_declared s.variables s.known row; known_low = all_low s row }

or_left : (a b : Bool) → a ≡ true → (a || b) ≡ true
or_left true b h = refl
or_left false b h = cc

pub declared_more : (v : ℕ) (known : ℕ → Bool) (k : StmtKind) (x : ℕ) → known x ≡ true → declared v known k x ≡ true
declared_more v known (stmt.Declare slot value) x h = or_left (known x) ((x == slot) && nat_lt x v) h
declared_more v known _ x h = h

pub all_more : (v : ℕ) (known : ℕ → Bool) {n : _} (row : Row_of-Stmt n) (x : ℕ) → known x ≡ true → all_declared v known row x ≡ true
all_more v known end_of-Stmt x h = h
all_more v known (more_of-Stmt place kind rest) x h = all_more v (declared v known kind) rest x (declared_more v known kind x h)

module _ (s : Setting) (known : ℕ → Bool) (low : (x : ℕ) → known x ≡ true → x < s.variables) where
  abbrev pub knowing : Setting
  knowing = record s { known = known; known_low = low }

  -- where more is known, less is
  pub reaches_less : ((x : ℕ) → s.known x ≡ true → known x ≡ true) → (r : ℕ) (p q : Point) → Reaches knowing r p q → Reaches s r p q
  reaches_less weak r p q reach = record { waits = reach.waits; spares = reach.spares; fits = λ slot k own. reach.fits slot (weak slot k) own }

  pub reaches_to : (r : ℕ) (p q o : Point) → Reaches s r p q → Reaches knowing r q o → Reaches knowing r p o
  reaches_to r p q o first second =
      record {
        waits = λ x from below. second.waits x from below ∙ first.waits x from below;
        spares = λ cell is. second.spares cell is ∙ first.spares cell is;
        fits = second.fits;
      }

module _ (number : ℕ) (call_code : (function depth : ℕ) → List ℕ → Code) (depth : ℕ) {U S : Type 0} (whole : U → Next U S) where
  -- what stands around a statement of the call, and how the whole goes on after each exit
  pub record ContextOfCode : Type 0 where
    pub around : Code → U
    pub go : Exit → Next U S
    pub part : (code : Code) → whole (around code) ≡ next_within around (next_code number call_code depth code) go

module _ (s : Setting) {U S : Type 0} (whole : U → Next U S) where
  abbrev pub CodeContext : Type 0
  CodeContext = ContextOfCode s.number s.call_code s.depth whole

  -- a statement in a statement
  abbrev pub code_in : (c : CodeContext) (inner : Code → Code) (go : Exit → Next Code Exit) → ((code : Code) → next_code s.number s.call_code s.depth (inner code) ≡ next_within inner (next_code s.number s.call_code s.depth code) go) → CodeContext
  code_in c inner go part =
      record {
        around = λ code. c.around (inner code);
        go = λ exit. next_within c.around (go exit) c.go;
        part = λ code. c.part (inner code) ∙ ap (λ n. next_within c.around n c.go) (part code) ∙ within_within inner c.around (next_code s.number s.call_code s.depth code) go c.go;
      }

  -- an expression in a statement
  abbrev pub term_in : (c : CodeContext) (inner : Term → Code) (go : ℕ → Next Code Exit) → ((e : Term) → next_code s.number s.call_code s.depth (inner e) ≡ next_within inner (next s.number s.call_code s.depth e) go) → Context s whole
  term_in c inner go part =
      record {
        around = λ e. c.around (inner e);
        go = λ v. next_within c.around (go v) c.go;
        part = λ e. c.part (inner e) ∙ ap (λ n. next_within c.around n c.go) (part e) ∙ within_within inner c.around (next s.number s.call_code s.depth e) go c.go;
      }

  -- Each exit leads on: the end, where more may be known, at the position behind; a break and a `continue`, in a loop, where they jump to; a `return`, at its quad.
  pub record Leads (t : Setting) (c : CodeContext) (n credit low end leave again : ℕ) (loop : Bool) (p : Point) : Type 0 where
    pub ends : (q : Point) (x : U) → whole x ≡ c.go Ends → Reaches t s.variables p q → Meets s whole x n credit end q
    pub breaks : loop ≡ true → (q : Point) (x : U) → whole x ≡ c.go Breaks → Reaches s s.variables p q → Meets s whole x n low leave q
    pub continues : loop ≡ true → (q : Point) (x : U) → whole x ≡ c.go Continues → Reaches s s.variables p q → Meets s whole x n low again q
    pub returns : (q : Point) (x : U) (at : ℕ) (o : Operand) → quad_at s.program s.function at ≡ Some (quad.Return o) → whole x ≡ c.go (Returns (operand_value q.registers o)) → Reaches s s.variables p q → Meets s whole x n credit at q

module _ (s : Setting) {U S : Type 0} (whole : U → Next U S) where
  -- the exits of a part that lead on from a later point, where more may be known, and whose end leads elsewhere
  pub leads_later : (known : ℕ → Bool) (knows : (x : ℕ) → known x ≡ true → x < s.variables) → ((x : ℕ) → s.known x ≡ true → known x ≡ true) → (t t2 : Setting) (c c2 : CodeContext s whole) (n credit more low end end2 leave again : ℕ) (loop : Bool) (p q : Point) → credit ≤ more → Reaches s s.variables p q → (c2.go Breaks ≡ c.go Breaks) → (c2.go Continues ≡ c.go Continues) → ((v : ℕ) → c2.go (Returns v) ≡ c.go (Returns v)) → Leads s whole t c n credit low end leave again loop p → ((o : Point) (x : U) → whole x ≡ c2.go Ends → Reaches t2 s.variables q o → Meets s whole x n more end2 o) → Leads (knowing s known knows) whole t2 c2 n more low end2 leave again loop q
  leads_later known knows weak t t2 c c2 n credit more low end end2 leave again loop p q le reach b k r leads ends =
      let v = s.variables in
      record {
        ends = ends;
        breaks = λ is o x e further. leads.breaks is o x (e ∙ b) (reaches_on s v v p q o (omega arith) reach (reaches_less s known knows weak v q o further));
        continues = λ is o x e further. leads.continues is o x (e ∙ k) (reaches_on s v v p q o (omega arith) reach (reaches_less s known knows weak v q o further));
        returns = λ o x at operand here e further. richer s whole x n credit more at o le (leads.returns o x at operand here (e ∙ r (operand_value o.registers operand)) (reaches_on s v v p q o (omega arith) reach (reaches_less s known knows weak v q o further)));
      }

  -- the code of statements, and its meaning
  abbrev pub statement_code : (at leave again : ℕ) (met : Counts) (line : ℕ) → StmtKind → List Lined
  statement_code at leave again met line k = statement_at s.base_of s.size_of s.outer s.variables at leave again met line k

  abbrev pub sequence_code : (at leave again : ℕ) → Counts → {n : _} → Row_of-Stmt n → List Lined
  sequence_code at leave again met row = sequence_at s.base_of s.size_of s.outer s.variables at leave again met row

  abbrev pub nexts : Code → Next Code Exit
  nexts = next_code s.number s.call_code s.depth

  abbrev pub KeptCode : (line : ℕ) → StmtKind → Type 0
  KeptCode line k =
      (c : CodeContext s whole) (n credit low at leave again : ℕ) (met : Counts) (loop : Bool) (p : Point) (x : U) → 40 ≤ credit → low + 4 ≤ credit →
      Stands s at (statement_code at leave again met line k) → StatementKnown (length s.globals) s.MayCall s.variables s.outer s.known loop s.region k → Fits s p →
      whole x ≡ next_within c.around (nexts (code_of s.globals s.own s.frame met.spawned line k)) c.go →
      Leads s whole (after s k) c n credit low (at + length (statement_code at leave again met line k)) leave again loop p →
      Meets s whole x n credit at p

  abbrev pub KeptSequence : {m : _} → Row_of-Stmt m → Type 0
  KeptSequence row =
      (c : CodeContext s whole) (n credit low at leave again : ℕ) (met : Counts) (loop : Bool) (p : Point) (x : U) → 40 ≤ credit → low + 4 ≤ credit →
      Stands s at (sequence_code at leave again met row) → SequenceKnown (length s.globals) s.MayCall s.variables s.outer s.known loop s.region row → Fits s p →
      whole x ≡ next_within c.around (nexts (sequence s.globals s.own s.frame met.spawned row)) c.go →
      Leads s whole (after_all s row) c n credit low (at + length (sequence_code at leave again met row)) leave again loop p →
      Meets s whole x n credit at p

module _ (s : Setting) {U S : Type 0} (whole : U → Next U S) where
  -- a state of the source is as good as another with the same next step
  pub same : (n credit at : ℕ) (x y : U) (p : Point) → whole x ≡ whole y → Meets s whole y n credit at p → Meets s whole x n credit at p
  same n credit at x y p e m = λ few. keeps_same (moves s) (costs s) IsOver (StandsAs (AtSpawn s) s.program) whole n credit (thread_at s at p) x y p.store e (m few)

  -- a quiet step of the source alone
  pub quietly : (n credit at : ℕ) (x y : U) (p : Point) → whole x ≡ Asks Quietly (λ _. y) → Meets s whole y n credit at p → Meets s whole x n credit at p
  quietly n credit at x y p e m =
      λ few.
      keeps_source (moves s) (costs s) IsOver (StandsAs (AtSpawn s) s.program) whole n credit credit (thread_at s at p) x y p.store p.store (λ replies. ap (step_of p.store replies) e) (omega arith) (m few)

  -- ---- sequences

  pub nothing_kept : KeptSequence s whole end_of-Stmt
  nothing_kept c n credit low at leave again met loop p x rich spare stands below fits e leads =
      meets_at s whole x n credit (at + 0) at p (omega arith) (leads.ends p x e (reaches_here s s.variables p fits))

  pub more_kept : (place : Place) (k : StmtKind) {m : _} (rest : Row_of-Stmt m) → KeptCode s whole place.line k → KeptSequence (after s k) whole rest → KeptSequence s whole (more_of-Stmt place k rest)
  more_kept place k rest first second c n credit low at leave again met loop p x rich spare stands below fits e leads =
      let v = s.variables in
      let line = place.line in
      let ca = statement_code s whole at leave again met line k in
      let at1 = at + length ca in
      let cb = sequence_code s whole at1 leave again (behind met k) rest in
      let b = sequence s.globals s.own s.frame (met.spawned + spawns k) rest in
      let end = at + length (ca ++ cb) in
      let s2 = after s k in
      let t = after_all s2 rest in
      let c2 = code_in s whole c (λ a. Then a b) (λ exit. next_after exit (nexts s whole b)) (λ code. refl) in
      let known = declared v s.known k in
      let knows = declared_low s k in
      let weak = declared_more v s.known k in
      first c2 n credit low at leave again met loop p x rich spare (has_front s.program s.function at ca cb stands) below.0 fits
      (e ∙ within_within (λ a. Then a b) c.around (nexts s whole (code_of s.globals s.own s.frame met.spawned line k)) (λ exit. next_after exit (nexts s whole b)) c.go)
      (leads_later s whole s.known s.known_low (λ x h. h) t s2 c c2 n credit credit low end at1 leave again loop p p (omega arith) (reaches_here s v p fits) refl refl (λ v. refl) leads
      (λ q y ey reach.
      second c n credit low at1 leave again (behind met k) loop q y rich spare (has_back s.program s.function at ca cb stands) below.1 reach.fits ey
      (leads_later s whole known knows weak t t c c n credit credit low end (at1 + length cb) leave again loop p q (omega arith) (reaches_less s known knows weak v p q reach) refl refl (λ v. refl) leads
      (λ o z ez further.
      meets_at s whole z n credit end (at1 + length cb) o (omega (arith, length-append ca cb))
      (leads.ends o z ez (reaches_to s t.known t.known_low v p q o (reaches_less s known knows weak v p q reach) further))))))
