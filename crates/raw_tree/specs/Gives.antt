-- How a result of the code stands to what reading gives.
use Rattle.std.specs.Prelude.{◌≡◌, Bool, List, [], Result, Ok, Err, Option, Some, None}
use Rattle.std.specs.Borrow.{Bor}
use Rattle.raw_tree.specs.declared.read.Read.{Read}
use Rattle.raw_tree.specs.declared.read.ReadError.{ReadError}
use Rattle.raw_tree.specs.declared.read.ReadError.TheVariants.{Syntax, NoMemory}
use Rattle.raw_tree.specs.declared.tree.RawItem.{RawItem}
use Rattle.raw_tree.specs.Level.{Tokens}
use Rattle.raw_tree.specs.Reading.{Got, got, past}
use Rattle.raw_tree.specs.ReadingStatements.{after}
use Rattle.xmt_lex.specs.declared.TokenKind.{TokenKind}

abbrev pub view : {A : Type 0} → Read A → Got A
view r = record { tree = r.tree; nest = r.nest; rest = r.rest.now }

-- the result is what reading gives, unless memory ran out
abbrev pub Gives : {A : Type 0} → Result (Read A) ReadError → Option (Got A) → Type 0
Gives (Ok r) expected = expected ≡ Some (view r)
Gives (Err (Syntax left)) expected = expected ≡ None
Gives (Err NoMemory) expected = Unit {0}

-- the same where no tokens are left
abbrev pub GivesAll : Result (List RawItem) ReadError → Option (Got (List RawItem)) → Type 0
GivesAll (Ok all) expected = expected ≡ got all 0 []
GivesAll (Err (Syntax left)) expected = expected ≡ None
GivesAll (Err NoMemory) expected = Unit {0}

abbrev pub GivesTokens : Result (Bor Tokens) ReadError → Option Tokens → Type 0
GivesTokens (Ok ts) expected = expected ≡ Some ts.now
GivesTokens (Err (Syntax left)) expected = expected ≡ None
GivesTokens (Err NoMemory) expected = Unit {0}

abbrev pub GivesSome : Option (Bor Tokens) → Option Tokens → Type 0
GivesSome (Some ts) expected = expected ≡ Some ts.now
GivesSome None expected = expected ≡ None

-- the same of the tokens behind it
abbrev pub GivesRest : {A : Type 0} → Result (Read A) ReadError → Option Tokens → Type 0
GivesRest (Ok r) expected = expected ≡ Some r.rest.now
GivesRest (Err (Syntax left)) expected = expected ≡ None
GivesRest (Err NoMemory) expected = Unit {0}

-- what was read, with a token that passes behind it taken too
abbrev pub with_end : {A : Type 0} → (TokenKind → Bool) → Got A → Option (Got A)
with_end test g = after (past test g.rest) (λ us. got g.tree g.nest us)
