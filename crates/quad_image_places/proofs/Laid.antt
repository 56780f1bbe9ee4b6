-- What the image of a well-formed program is known by: where the code of each quad stands, where functions begin, blocks end and spawns are, and which slots registers have.
use Rattle.std.proofs.Common.{List, [], ◌∷◌, ◌≡◌, refl, sym, ap, subst, arith, ℕ, ◌+◌, ◌<◌, length, take, Option, Some, None}
use Rattle.std.specs.Prelude.{Bool, ⊤, slice_get, slice_index}
use Rattle.std.proofs.lemmas.Option.{get_or_from_slice_get, slice_get_within}
use Rattle.xmt_isa.specs.declared.image.Image.{Image}
use Rattle.xmt_isa.specs.declared.image.Instr.{Instr}
use Rattle.xmt_isa.specs.Image.{start_of}
use Rattle.xmt_isa.specs.Machine as isa
use Rattle.xmt_isa.specs.Threads.{site_of}
use Rattle.xmt_quads.specs.declared.code.Operand.{Operand}
use Rattle.xmt_quads.specs.declared.code.Quad.{Quad}
use Rattle.xmt_quads.specs.declared.code.Quad.TheVariants as quad
use Rattle.xmt_quads.specs.declared.code.QuadFunction.{QuadFunction}
use Rattle.xmt_quads.specs.declared.code.QuadProgram.{QuadProgram}
use Rattle.xmt_quads.specs.Program.{quads_of, quads_in, quad_at, line_at, text_at, site_at}
use Rattle.xmt_quads.specs.Regions.{IsBlock}
use Rattle.xmt_quads.specs.WellFormed.{AreBelow, NamesExist, IsWellFormedFunction, IsWellFormed}
use Rattle.quad_images.specs.Instructions.{quad_code}
use Rattle.quad_images.specs.Image.{all_own, begins_in}
use Rattle.quad_image_places.proofs.Own.{own_at, element_inside}
use Rattle.quad_image_places.proofs.Tails.{sizes_of}

-- these instructions, of this line, stand in the image from a place on
abbrev pub HasCode : Image → (line at : ℕ) → List Instr → Type 0
HasCode image line at [] = ⊤
HasCode image line at (i ∷ rest) = (slice_get image.code at ≡ Some i) × (slice_index image.lines at ≡ line) × HasCode image line (at + 1) rest

-- each of so many registers has a slot of its own
pub record HasSlots (slot : ℕ → ℕ) (count : ℕ) : Type 0 where
  pub low : (r : ℕ) → r < count → slot r < 512
  pub apart : (r other : ℕ) → r < count → other < count → slot r ≡ slot other → r ≡ other

module _ (program : QuadProgram) where
  -- where a quad begins
  abbrev pub place : (f at : ℕ) → ℕ
  place f at = begins_in (sizes_of (take f program.functions)) (quads_in program f) at

  -- which registers live in the thread's own frame there
  abbrev pub own_in : (f at : ℕ) → (register : ℕ) → Bool
  own_in f at = own_at all_own (quads_in program f) at

  pub record Laid (slot : ℕ → ℕ → ℕ) (image : Image) : Type 0 where
    pub code : (f at : ℕ) (q : Quad) → quad_at program f at ≡ Some q → HasCode image (line_at program f at) (place f at) (quad_code (slot f) (place f) (own_in f at) q)
    pub starts : (f : ℕ) → f < length program.functions → start_of image f ≡ place f 0
    pub sites : (f at : ℕ) (low high : Operand) → quad_at program f at ≡ Some (quad.Spawn low high) → site_of image (place f at + 1 + 1) ≡ site_at program f at
    pub joins : (f spawn join : ℕ) → IsBlock (quads_in program f) spawn join → isa.behind_join image (place f (spawn + 1)) ≡ place f (join + 1)
    pub words : length image.words ≡ length program.words
    pub outer : image.outer ≡ program.outer
    pub texts : (text : ℕ) → isa.text_of image text ≡ text_at program text
    pub slots : (f : ℕ) (g : QuadFunction) → slice_get program.functions f ≡ Some g → HasSlots (slot f) g.registers

  -- a function of the program
  pub record Known (f : ℕ) : Type 0 where
    pub function : QuadFunction
    pub found : slice_get program.functions f ≡ Some function
    pub well : IsWellFormedFunction program (record function { quads = quads_in program f })

  pub known_function : IsWellFormed program → (f : ℕ) (g : QuadFunction) → slice_get program.functions f ≡ Some g → Known f
  known_function well f g found =
      let here : IsWellFormedFunction program g =
      subst (IsWellFormedFunction program) (get_or_from_slice_get program.functions f g g found) (well.functions f g (slice_get_within program.functions f g found)) in
      record { function = g; found = found; well = subst (λ qs. IsWellFormedFunction program (record g { quads = qs })) (sym (ap quads_of found)) here }

  -- where a quad stands, a function is
  pub known : IsWellFormed program → (f at : ℕ) → at < length (quads_in program f) → Known f
  known well f at below = by (slice_get program.functions f) refl
    where
      by : (o : Option QuadFunction) → slice_get program.functions f ≡ o → Known f
      by None is = absurd (let none : at < 0 = subst (λ o. at < length (quads_of o)) is below in omega (arith, none))
      by (Some g) is = known_function well f g is

  module _ {f : ℕ} (k : Known f) where
    -- a function has quads
    pub some_quads : 0 < length (quads_in program f)
    some_quads = let ends = k.well.regions.ends in let long = ends.1 in omega (arith, long)

    pub registers_below : (at : ℕ) (q : Quad) → quad_at program f at ≡ Some q → AreBelow k.function.registers q
    registers_below at q here =
        subst (AreBelow k.function.registers) (get_or_from_slice_get (quads_in program f) at q q here) (k.well.registers at q (element_inside (quads_in program f) at q here))

    pub names_exist : (at : ℕ) (q : Quad) → quad_at program f at ≡ Some q → NamesExist program (record k.function { quads = quads_in program f }) q
    names_exist at q here =
        subst (NamesExist program (record k.function { quads = quads_in program f })) (get_or_from_slice_get (quads_in program f) at q q here) (k.well.names at q (element_inside (quads_in program f) at q here))
