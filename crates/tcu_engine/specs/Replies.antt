-- Which operations take a reply of 32 bits.
use Rattle.std.specs.Prelude.{⊤}
use Rattle.std.specs.declared.option.Option.{Option}
use Rattle.std.specs.declared.option.Option.TheVariants.{Some, None}
use Rattle.xmt_isa.specs.declared.operation.Operation.{Operation}
use Rattle.xmt_isa.specs.declared.operation.Operation.TheVariants.{Load, Store, Add, Print}

-- the operation asks for something that is neither a draw nor a spawn
abbrev pub TakesWord : Operation → Type 0
TakesWord (Load a location) = ⊤
TakesWord (Store a location) = ⊤
TakesWord (Add a location) = ⊤
TakesWord (Print text) = ⊤
TakesWord operation = ⊥

abbrev pub TakesWordHere : Option Operation → Type 0
TakesWordHere None = ⊥
TakesWordHere (Some operation) = TakesWord operation
