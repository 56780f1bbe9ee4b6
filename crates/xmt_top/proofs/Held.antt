-- What is known of a file is known of its one content.
use Rattle.std.proofs.Common.{◌≡◌, ◌∙◌, refl, sym, ap, subst, ℕ, ◌<◌, ◌≤◌, List, length, Option, Some, None, Result, Ok, Err, inl, inr, arith}
use Rattle.std.specs.Prelude.{IsSomeAnd}
use Rattle.std.specs.Option.{ForSome}
use Rattle.xmt_base.specs.declared.values.Place.{Place}
use Rattle.xmt_base.specs.declared.values.Symbol.{Symbol}
use Rattle.xmt_host.specs.Told.{FileMap}
use Rattle.xmt_host.specs.Host.{IsWholeFile}
use Rattle.source_meaning.specs.declared.tree.Program.{Program}
use Rattle.front_end.specs.declared.refusal.SourceKind.{SourceKind}
use Rattle.front_end.specs.Refused.{IsAccepted}
use Rattle.xmt_isa.specs.declared.image.Image.{Image}
use Rattle.memory_map.specs.declared.read.MapRefusal.{MapRefusal}
use Rattle.memory_map.specs.declared.read.MapRefusal.TheVariants as map
use Rattle.memory_map.specs.declared.read.Reading.{Reading}
use Rattle.memory_map.specs.MapText.{MapText}
use Rattle.xmt_cli.specs.Given.{Text}
use Rattle.xmt_jobs.specs.declared.outcome.BytesFault.{BytesFault}
use Rattle.xmt_jobs.specs.declared.outcome.BytesFault.TheVariants.{TooLong, BadImage, BadMap}
use Rattle.xmt_jobs.specs.Faults.{byte_limit, HoldsImage, HoldsNoImage, HoldsNoMap, IsNoMap, OpensAs}
use Rattle.xmt_jobs.specs.Sources.{HoldsProgram, HoldsNoProgram, IsBroken}
use Rattle.xmt_top.specs.Completeness.{HasFileWith, HasProgram, LacksProgram, HasImage, LacksImage, HasMemory, LacksMap}
use Rattle.front_end.proofs.Accepted.{accepted_as_one}
use Rattle.image_loader.proofs.Records.{one_image}

less_not : (a b : ℕ) → a < b → b ≤ a → ⊥
less_not a b less more = omega (arith, less, more)

module _ (told : Option FileMap) (name : Text) where
  -- of the whole of a file all holds that holds of its bytes
  whole_has : (bytes : List ℕ) (P : List ℕ → Type 0) → HasFileWith told name P → IsWholeFile told name bytes → P bytes
  whole_has bytes P has whole = by_files told has whole
    where
      by_files : (told : Option FileMap) → HasFileWith told name P → IsWholeFile told name bytes → P bytes
      by_files None has whole = absurd has
      by_files (Some files) has whole = subst (λ (o : Option (List ℕ)). IsSomeAnd o P) (whole files refl) has

  -- and what holds where the files are told holds of the same bytes
  both_hold : (P Q : List ℕ → Type 0) → HasFileWith told name P → ForSome told (λ files. IsSomeAnd (files name) Q) → (bytes : List ℕ) × P bytes × Q bytes
  both_hold P Q has also = by_files told has also
    where
      by_file : (o : Option (List ℕ)) → IsSomeAnd o P → IsSomeAnd o Q → (bytes : List ℕ) × P bytes × Q bytes
      by_file None p q = absurd p
      by_file (Some bytes) p q = (bytes, p, q)

      by_files : (told : Option FileMap) → HasFileWith told name P → ForSome told (λ files. IsSomeAnd (files name) Q) → (bytes : List ℕ) × P bytes × Q bytes
      by_files None has also = absurd has
      by_files (Some files) has also = by_file (files name) has (also files refl)

  -- ---- sources

  -- the program that the file holds is that one
  pub of_program : (P : Program → Type 0) (program : Program) → HasProgram told name P → HoldsProgram told name program → P program
  of_program P program has holds =
      let known = whole_has holds.source (λ bytes. (program : Program) × IsAccepted bytes program × P program) has holds.whole in
      subst P (accepted_as_one holds.source known.0 program known.1 holds.is_program) known.2

  pub lacks_no_program : (program : Program) → LacksProgram told name → HoldsProgram told name program → ⊥
  lacks_no_program program lacks holds = whole_has holds.source (λ bytes. (program : Program) → ¬ IsAccepted bytes program) lacks holds.whole program holds.is_program

  pub program_not_broken : (P : Program → Type 0) (kind : SourceKind) (place : Place) → HasProgram told name P → HoldsNoProgram told name kind place → ⊥
  program_not_broken P kind place has broken =
      let both = both_hold (λ bytes. (program : Program) × IsAccepted bytes program × P program) (IsBroken kind place) has broken in
      both.2.1 both.1.0 both.1.1

  -- ---- images

  pub of_image : (P : Image → Type 0) (image : Image) → HasImage told name P → HoldsImage told name image → P image
  of_image P image has holds =
      let known = whole_has holds.bytes _ has holds.has.whole in
      subst P (one_image known.1.0 image holds.bytes known.1.1 holds.spelled) known.1.3

  pub lacks_no_image : (image : Image) → LacksImage told name → HoldsImage told name image → ⊥
  lacks_no_image image lacks holds = elim (whole_has holds.bytes _ lacks holds.has.whole) [
    | inl long ↦ less_not byte_limit (length holds.bytes) long holds.has.short
    | inr none ↦ none image holds.spelled holds.valid
  ]

  pub image_not_faulty : (P : Image → Type 0) (fault : BytesFault) → HasImage told name P → HoldsNoImage told name fault → ⊥
  image_not_faulty P TooLong has long = let both = both_hold _ (λ bytes. byte_limit < length bytes) has long in less_not byte_limit (length both.0) both.2 both.1.0
  image_not_faulty P (BadImage kind) has bad = let known = whole_has bad.0 _ has bad.1.whole in bad.2.none known.1.0 known.1.1 known.1.2
  image_not_faulty P (BadMap refusal) has bad = bad

-- ---- maps

words_or : Result Reading MapRefusal → List ℕ → List ℕ
words_or (Ok reading) other = reading.words
words_or (Err refusal) other = other

ok_not_err : {A B : Type 0} (r : Result A B) (a : A) (b : B) → r ≡ Ok a → r ≡ Err b → ⊥
ok_not_err r a b ok err = cc

module _ (symbols : List Symbol) (opening : List ℕ) where
  one_memory : (bytes first second : List ℕ) → MapText bytes symbols opening first → MapText bytes symbols opening second → first ≡ second
  unfolding words_or
  one_memory bytes first second one two = ap (λ (r : Result Reading MapRefusal). words_or r opening) (sym one.1 ∙ two.1)

  map_not_faulty : (bytes memory : List ℕ) (refusal : MapRefusal) → MapText bytes symbols opening memory → IsNoMap bytes symbols opening refusal → ⊥
  map_not_faulty bytes memory (map.BadLine line) is bad = ok_not_err _ _ _ is.1 bad
  map_not_faulty bytes memory (map.UnknownName line) is bad = ok_not_err _ _ _ is.1 bad
  map_not_faulty bytes memory (map.DoubleName line) is bad = ok_not_err _ _ _ is.1 bad
  map_not_faulty bytes memory (map.TooManyValues line) is bad = ok_not_err _ _ _ is.1 bad
  map_not_faulty bytes memory (map.BadNumber line) is bad = ok_not_err _ _ _ is.1 bad
  map_not_faulty bytes memory map.NoMemory is bad = bad

  module _ (told : Option FileMap) where
    pub of_memory : (P : List ℕ → Type 0) (name : Option Text) (memory : List ℕ) → HasMemory told name symbols opening P → OpensAs told name symbols opening memory → P memory
    of_memory P None memory has opens = subst P (sym opens) has
    of_memory P (Some name) memory has opens =
        let known = whole_has told name opens.0 _ has opens.1.whole in
        subst P (one_memory opens.0 known.1.0 memory known.1.1 opens.2) known.1.2

    pub lacks_no_map : (name : Option Text) (memory : List ℕ) → LacksMap told name symbols opening → OpensAs told name symbols opening memory → ⊥
    lacks_no_map None memory lacks opens = lacks
    lacks_no_map (Some name) memory lacks opens = elim (whole_has told name opens.0 _ lacks opens.1.whole) [
      | inl long ↦ less_not byte_limit (length opens.0) long opens.1.short
      | inr none ↦ none memory opens.2
    ]

    pub memory_not_faulty : (P : List ℕ → Type 0) (name : Option Text) (fault : BytesFault) → HasMemory told name symbols opening P → HoldsNoMap told name symbols opening fault → ⊥
    memory_not_faulty P None fault has bad = bad
    memory_not_faulty P (Some name) TooLong has long = let both = both_hold told name _ (λ bytes. byte_limit < length bytes) has long in less_not byte_limit (length both.0) both.2 both.1.0
    memory_not_faulty P (Some name) (BadImage kind) has bad = bad
    memory_not_faulty P (Some name) (BadMap refusal) has bad =
        let known = whole_has told name bad.0 _ has bad.1.whole in
        map_not_faulty bad.0 known.1.0 refusal known.1.1 bad.2
