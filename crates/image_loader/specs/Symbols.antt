-- What is tested of each symbol, and of all names.
use Rattle.std.specs.Prelude.{◌≢◌, ◌^◌, ◌<◌, ◌≤◌, List, length, AllPairs}
use Rattle.xmt_base.specs.declared.values.Symbol.{Symbol}
use Rattle.xmt_base.specs.Name.{IsName}

abbrev pub SymbolHolds : Symbol → Type 0
SymbolHolds s = IsName s.name × (length s.name < 2 ^ 32) × (1 ≤ s.length)

abbrev pub NamesDiffer : List Symbol → Type 0
NamesDiffer symbols = AllPairs (λ s t. s.name ≢ t.name) symbols
