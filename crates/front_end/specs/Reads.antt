-- What reading a source answers.
use Rattle.std.specs.Prelude.{◌≡◌, ◌⊎◌, ℕ, ◌≤◌, ◌^◌, List, Result, Ok, Err, Vec}
use Rattle.std.specs.declared.alloc.Global.{Global}
use Rattle.xmt_lex.specs.declared.Token.{Token}
use Rattle.raw_tree.specs.declared.tree.RawProgram.{RawProgram}
use Rattle.source_meaning.specs.declared.tree.Program.{Program}
use Rattle.spawn_check.specs.declared.refusal.SpawnKind.{SpawnKind}
use Rattle.spawn_check.specs.Table.{MeetsNone, IsFirst}
use Rattle.spawn_check.specs.Words.{words_of}
use Rattle.front_end.specs.declared.refusal.SourceKind.TheVariants.{TooMuchMemory}
use Rattle.front_end.specs.declared.refusal.SourceRefusal.{SourceRefusal}
use Rattle.front_end.specs.declared.refusal.SourceRefusal.TheVariants.{Refused, NoMemory}
use Rattle.front_end.specs.Kinds.{kind_of_block}
use Rattle.front_end.specs.Refused.{first_place, HasTokens, IsTree, HasManyWords, IsAccepted, IsRefusal}

-- The program of an accepted source, or the rule that the source breaks first. Want of memory is free.
abbrev pub Fronts : List ℕ → Result Program SourceRefusal → Type 0
Fronts source (Ok program) = IsAccepted source program
Fronts source (Err refusal) = IsRefusal source refusal

-- ---- the steps

-- the tokens, or a rule of the tokens
abbrev pub ReadsTokens : List ℕ → Result (Vec Token Global) SourceRefusal → Type 0
ReadsTokens source (Ok ts) = HasTokens source ts.items
ReadsTokens source (Err refusal) = IsRefusal source refusal

-- a tree of the tokens, or a rule of brackets or grammar
abbrev pub ReadsTree : List ℕ → List Token → Result RawProgram SourceRefusal → Type 0
ReadsTree source ts (Ok tree) = IsTree source ts tree
ReadsTree source ts (Err refusal) = IsRefusal source refusal

-- that program, if its blocks and its words break no rule, or the rule
abbrev pub ChecksProgram : Program → Result Program SourceRefusal → Type 0
ChecksProgram program (Ok checked) = (checked ≡ program) × MeetsNone program × (words_of program ≤ 2 ^ 20)
ChecksProgram program (Err (Refused kind p)) =
    ((k : SpawnKind) × (kind ≡ kind_of_block k) × IsFirst program (record { kind = k; place = p })) ⊎ ((kind ≡ TooMuchMemory) × (p ≡ first_place) × HasManyWords program)
ChecksProgram program (Err NoMemory) = ⊥
