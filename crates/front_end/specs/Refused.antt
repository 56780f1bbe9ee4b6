-- Which rule a source breaks first, and where, and which sources break none.
use Rattle.std.specs.Prelude.{◌≡◌, ℕ, ◌<◌, ◌≤◌, ◌^◌, List, length, Ok, Err, Some, None}
use Rattle.xmt_base.specs.declared.Place.{Place}
use Rattle.xmt_lex.specs.declared.LexKind.{LexKind}
use Rattle.xmt_lex.specs.declared.Token.{Token}
use Rattle.xmt_lex.specs.Lex.{tokens}
use Rattle.raw_tree.specs.declared.tree.RawProgram.{RawProgram}
use Rattle.xmt_parse.specs.Deep.{too_deep}
use Rattle.xmt_parse.specs.Law.{IsSpelled, NothingSpelled, IsPlaceIn, end_of}
use Rattle.name_scopes.specs.declared.fault.NameKind.{NameKind}
use Rattle.name_scopes.specs.Fault as names
use Rattle.name_faults.specs.Items.{program_faults}
use Rattle.typed_programs.specs.Items.{Resolves}
use Rattle.source_meaning.specs.declared.tree.Program.{Program}
use Rattle.spawn_check.specs.declared.refusal.SpawnKind.{SpawnKind}
use Rattle.spawn_check.specs.Table as blocks
use Rattle.spawn_check.specs.Words.{words_of}
use Rattle.front_end.specs.declared.refusal.SourceKind.{SourceKind}
use Rattle.front_end.specs.declared.refusal.SourceKind.TheVariants as rule
use Rattle.front_end.specs.declared.refusal.SourceRefusal.{SourceRefusal}
use Rattle.front_end.specs.declared.refusal.SourceRefusal.TheVariants.{Refused, NoMemory}
use Rattle.front_end.specs.Kinds.{kind_of, kind_of_name, kind_of_block}

-- ---- what a source is

-- the source is short enough and has these tokens
pub record HasTokens (source : List ℕ) (ts : List Token) : Type 0 where
  pub short : length source ≤ 2 ^ 20
  pub are_tokens : tokens source ≡ Ok ts

-- the tokens are a program of nesting at most 200, of which no more than 200 brackets stand open anywhere, and this is its tree
pub record IsTree (source : List ℕ) (ts : List Token) (tree : RawProgram) : Type 0 where
  pub shallow : too_deep 0 ts ≡ None
  pub spelled : IsSpelled source ts tree.items
  pub end : tree.end ≡ end_of source

-- the source has tokens, of which this holds
abbrev pub OfTokens : List ℕ → (List Token → Type 0) → Type 0
OfTokens source P = (ts : List Token) × HasTokens source ts × P ts

-- the source has a tree, of which this holds
abbrev pub OfTree : List ℕ → (RawProgram → Type 0) → Type 0
OfTree source P = OfTokens source (λ ts. (tree : RawProgram) × IsTree source ts tree × P tree)

-- the tree of the source breaks no rule of names and types, and this holds of its program
abbrev pub OfProgram : List ℕ → (Program → Type 0) → Type 0
OfProgram source P = OfTree source (λ tree. (program : Program) × Resolves tree program × P program)

-- The source is accepted, and this is its program: its tree breaks no rule of names and types, the program meets no line of the table of spawn
-- blocks, and its shared words are at most 2^20.
pub record IsAccepted (source : List ℕ) (program : Program) : Type 0 where
  pub tokens : List Token
  pub are_tokens : HasTokens source tokens
  pub tree : RawProgram
  pub is_tree : IsTree source tokens tree
  pub resolved : Resolves tree program
  pub blocks : blocks.MeetsNone program
  pub few_words : words_of program ≤ 2 ^ 20

-- ---- which rule is broken first

-- where a source begins
abbrev pub first_place : Place
first_place = record { line = 1; column = 1 }

-- the source is short enough, and the first rule that its tokens break is this one
abbrev pub BreaksTokens : List ℕ → LexKind → Place → Type 0
BreaksTokens source kind p = (length source ≤ 2 ^ 20) × (tokens source ≡ Err (kind, p))

-- the tokens are no program of nesting at most 200, although no more than 200 brackets stand open
pub record HasNoTree (source : List ℕ) (p : Place) (ts : List Token) : Type 0 where
  pub shallow : too_deep 0 ts ≡ None
  pub nothing : NothingSpelled source ts
  pub place : IsPlaceIn source ts p

-- a program meets no line of the table of spawn blocks and has too many shared words
pub record HasManyWords (program : Program) : Type 0 where
  pub blocks : blocks.MeetsNone program
  pub many : 2 ^ 20 < words_of program

-- The first rule that the source breaks is of this kind, and this is the place.
pub data Breaks (source : List ℕ) (kind : SourceKind) (p : Place) : Type 0 where
  -- it is too long
  length_is_broken : kind ≡ rule.TooLong → p ≡ first_place → 2 ^ 20 < length source → Breaks source kind p
  -- a rule of its tokens
  tokens_are_broken : (k : LexKind) → kind ≡ kind_of k → BreaksTokens source k p → Breaks source kind p
  -- too many brackets stand open
  brackets_are_broken : kind ≡ rule.TooDeep → OfTokens source (λ ts. too_deep 0 ts ≡ Some p) → Breaks source kind p
  -- the grammar
  grammar_is_broken : kind ≡ rule.Syntax → OfTokens source (HasNoTree source p) → Breaks source kind p
  -- a rule of names and types
  names_are_broken : (k : NameKind) → kind ≡ kind_of_name k → OfTree source (λ tree. names.IsFirst (program_faults tree) (record { kind = k; place = p })) → Breaks source kind p
  -- a line of the table of spawn blocks
  blocks_are_broken : (k : SpawnKind) → kind ≡ kind_of_block k → OfProgram source (λ program. blocks.IsFirst program (record { kind = k; place = p })) → Breaks source kind p
  -- its program has too many shared words
  words_are_broken : kind ≡ rule.TooMuchMemory → p ≡ first_place → OfProgram source HasManyWords → Breaks source kind p

-- so it is, or memory ran out
abbrev pub IsRefusal : List ℕ → SourceRefusal → Type 0
IsRefusal source (Refused kind place) = Breaks source kind place
IsRefusal source NoMemory = Unit {0}
