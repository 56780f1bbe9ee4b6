-- The tokens of a source: at each place the first and longest token, from left to right.
-- A byte is a number, and a text reads as 0 past its end.
use Rattle.std.specs.Prelude.{ℕ, zero, suc, pred, ◌+◌, ◌-◌, ◌*◌, ◌%◌, ◌^◌, ◌<◌, ◌≤◌, Bool, true, false, not, ◌&&◌, ◌||◌, if◌then◌else◌, ◌==◌, nat_le, nat_lt, List, [], ◌∷◌, ◌++◌, take, drop, length, map, slice_index, Option, Some, None, Result, Ok, Err, codes, bytes_eq, ◌≡◌, Vec}
use Rattle.std.specs.Borrow.{Bor}
use Rattle.std.specs.declared.alloc.Global.{Global}
use Rattle.std.specs.Char.{is_ascii_digit, is_ascii_alphanumeric}
use Rattle.std.specs.List.{prefix_len}
use Rattle.xmt_base.specs.Name.{is_name}
use Rattle.xmt_base.specs.declared.Place.{Place}
use Rattle.xmt_lex.specs.declared.kinds.Keyword.{Keyword}
use Rattle.xmt_lex.specs.declared.kinds.Mark.{Mark}
use Rattle.xmt_lex.specs.declared.LexKind.{LexKind}
use Rattle.xmt_lex.specs.declared.LexKind.TheVariants as bad
use Rattle.xmt_lex.specs.declared.LexRefusal.{LexRefusal}
use Rattle.xmt_lex.specs.declared.LexRefusal.TheVariants as refusal
use Rattle.xmt_lex.specs.declared.Token.{Token}
use Rattle.xmt_lex.specs.declared.TokenKind.{TokenKind}
use Rattle.xmt_lex.specs.declared.TokenKind.TheVariants as kind
use Rattle.xmt_lex.specs.declared.scan.Class.{Class}
use Rattle.xmt_lex.specs.declared.scan.Class.TheVariants as class
use Rattle.xmt_lex.specs.declared.scan.Piece.{Piece}
use Rattle.xmt_lex.specs.declared.scan.Piece.TheVariants as piece
use Rattle.xmt_lex.specs.declared.Spot.{Spot}
use Rattle.xmt_lex.specs.declared.Next.{Next}
use Rattle.xmt_lex.specs.declared.Next.TheVariants as next
use Rattle.xmt_lex.specs.declared.names.Names.{Names}
use Rattle.xmt_lex.specs.Tables.{keywords, marks}

abbrev pub Text : Type 0
Text = List ℕ

-- ---- places

-- Where a byte stands: its number, its line and column, and whether only spaces and tabs stand before it on its line.
abbrev pub first_spot : Spot
first_spot = record { at = 0; place = record { line = 1; column = 1 }; fresh = true }

-- the spot behind a byte
abbrev pub behind : Spot → ℕ → Spot
behind s b =
    if b == 10
    then record { at = s.at + 1; place = record { line = s.place.line + 1; column = 1 }; fresh = true }
    else record { at = s.at + 1; place = record { line = s.place.line; column = s.place.column + 1 }; fresh = s.fresh && (b == 32 || b == 9) }

-- the spot behind some bytes
abbrev pub along : Spot → Text → Spot
along s [] = s
along s (b ∷ bs) = along (behind s b) bs

-- ---- runs of bytes

abbrev pub is_in : Class → ℕ → Bool
is_in class.Blank b = b == 32 || b == 9 || b == 10 || b == 13
is_in class.Space b = b == 32 || b == 9
is_in class.Word b = is_ascii_alphanumeric b || b == 95
is_in class.Line b = not (b == 10)
is_in class.Digit b = is_ascii_digit b
is_in class.Header b = not (b == 62) && (b == 9 || b == 13 || (nat_le 32 b && nat_le b 126))

-- how many bytes of the class stand in front
abbrev pub run : Class → Text → ℕ
run c z = prefix_len (is_in c) z

-- ---- numbers

-- the value of a digit, or 16 for another byte
abbrev pub digit : ℕ → ℕ
digit b =
    if nat_le 48 b && nat_le b 57 then b - 48
    else (if nat_le 97 b && nat_le b 102 then b - 87
    else (if nat_le 65 b && nat_le b 70 then b - 55 else 16))

-- the value of the digits behind the value so far, or none where one is no digit or the value is 2^32 or more
abbrev pub value : ℕ → ℕ → Text → Option ℕ
value base so_far [] = Some so_far
value base so_far (b ∷ bs) =
    if nat_lt (digit b) base && nat_lt (so_far * base + digit b) (2 ^ 32) then value base (so_far * base + digit b) bs else None

-- the value of a Number, or none where it isn't spelled as one below 2^32
unfoldable pub number_of : Text → Option ℕ
number_of w =
    if slice_index w 0 == 48
    then (if length w == 1 then Some 0
    else (if nat_lt 2 (length w) && (slice_index w 1 == 120 || slice_index w 1 == 88) then value 16 0 (drop 2 w) else None))
    else (if nat_lt 0 (length w) then value 10 0 w else None)

-- ---- names

-- the entry of a word in a table
abbrev pub lookup : {A : Type 0} → List (Text × A) → Text → Option A
lookup [] w = None
lookup (e ∷ es) w = if bytes_eq w e.0 then Some e.1 else lookup es w

-- what a word is under the definitions that stand before it
abbrev pub kind_of_keyword : Option Keyword → TokenKind
kind_of_keyword None = kind.Name
kind_of_keyword (Some k) = kind.Keyword k

-- the definitions of the code, in the order of their lines
abbrev pub entries : Names → List (Text × ℕ)
entries n = map (λ e. (e.0.items, e.1)) n.values.entries

unfoldable pub keyword_of : Text → Option Keyword
keyword_of = lookup keywords

abbrev pub kind_of_defined : Option ℕ → Text → TokenKind
kind_of_defined None w = kind_of_keyword (keyword_of w)
kind_of_defined (Some v) w = kind.Number v

abbrev pub kind_of_word : List (Text × ℕ) → Text → TokenKind
kind_of_word defined w = kind_of_defined (lookup defined w) w

-- ---- the piece in front: what no byte of the source can be put to but one token, one run of blanks or one comment

-- the length up to and with `*/`, or none where the bytes end before
abbrev pub comment_end : ℕ → Text → Option ℕ
comment_end at [] = None
comment_end at (b ∷ z) = if b == 42 && slice_index z 0 == 47 then Some (at + 2) else comment_end (at + 1) z

abbrev pub is_escape : ℕ → Bool
is_escape b = b == 110 || b == 116 || b == 92 || b == 34

-- the text whose first `at` bytes are read, the last of them being a `\` or not
abbrev pub text_from : Bool → ℕ → Text → Piece
text_from escaped at [] = piece.Bad bad.OpenText 0
text_from true at (b ∷ z) = if is_escape b then text_from false (at + 1) z else piece.Bad bad.BadEscape (at - 1)
text_from false at (b ∷ z) =
    if b == 34 then piece.Whole (at + 1) kind.Text
    else (if b == 92 then text_from true (at + 1) z
    else (if b == 10 then piece.Bad bad.OpenText 0
    else (if nat_le 32 b && nat_le b 126 then text_from false (at + 1) z else piece.Bad bad.BadByte at)))

-- the table's first mark with which the bytes begin
abbrev pub begins : Text → Text → Bool
begins z w = bytes_eq (take (length w) z) w

abbrev pub mark_in : List (Text × Mark) → Text → Piece
mark_in [] z = piece.Bad bad.BadByte 0
mark_in (e ∷ es) z = if begins z e.0 then piece.Whole (length e.0) (kind.Mark e.1) else mark_in es z

-- each spelling of a table has a byte
abbrev pub NoneEmpty : List (Bor Text × Mark) → Type 0
NoneEmpty [] = Unit {0}
NoneEmpty (e ∷ es) = (0 < length e.0.now) × NoneEmpty es

unfoldable pub mark : Text → Piece
mark = mark_in marks

abbrev pub commented : Option ℕ → Piece
commented None = piece.Bad bad.OpenComment 0
commented (Some n) = piece.Nothing n

abbrev pub comment : Text → Piece
comment z = commented (comment_end 2 (drop 2 z))

abbrev pub numbered : ℕ → Option ℕ → Piece
numbered n None = piece.Bad bad.BadNumber 0
numbered n (Some v) = piece.Whole n (kind.Number v)

abbrev pub number : Text → Piece
number z = numbered (run class.Word z) (number_of (take (run class.Word z) z))

unfoldable pub piece_of : Text → Piece
piece_of z =
    if is_in class.Blank (slice_index z 0) then piece.Nothing (run class.Blank z)
    else (if slice_index z 0 == 47 && slice_index z 1 == 42 then comment z
    else (if slice_index z 0 == 47 && slice_index z 1 == 47 then piece.Nothing (run class.Line z)
    else (if is_in class.Digit (slice_index z 0) then number z
    else (if is_in class.Word (slice_index z 0) then piece.Word (run class.Word z)
    else (if slice_index z 0 == 34 then text_from false 1 (drop 1 z)
    else mark z)))))

-- the piece is some bytes of so many
abbrev pub Within : Piece → ℕ → Type 0
Within (piece.Nothing n) size = (0 < n) × (n ≤ size)
Within (piece.Word n) size = (0 < n) × (n ≤ size)
Within (piece.Whole n k) size = (0 < n) × (n ≤ size)
Within (piece.Bad k at) size = at ≤ size

-- ---- hash lines

-- Whether nothing but spaces, tabs, comments and at most one carriage return stand on the rest of the line. `inside` counts the bytes of a comment that are left.
abbrev pub ends_line : ℕ → Bool → Text → Bool
ends_line inside returned [] = true
ends_line (suc n) returned (b ∷ z) = ends_line n returned z
ends_line zero returned (b ∷ z) =
    if is_in class.Space b then ends_line zero returned z
    else (if b == 13 then (if returned then false else ends_line zero true z)
    else (if b == 47 && slice_index z 0 == 47 then true
    else (if b == 47 && slice_index z 0 == 42 then elim (comment_end 2 (drop 1 z)) [ Some n ↦ ends_line (pred n) returned z | None ↦ false ]
    else false)))

-- behind a run of spaces and tabs
abbrev pub spaced : Text → Text
spaced z = drop (run class.Space z) z

-- the word in front, and what stands behind it
abbrev pub word : Text → Text
word z = take (run class.Word z) z

abbrev pub past_word : Text → Text
past_word z = drop (run class.Word z) z

-- what a hash line says: nothing, or what a name stands for
abbrev pub Said : Type 0
Said = Option (Text × ℕ)

-- the same with the name where it stands in the source
abbrev pub said : Option (Option (Bor Text × ℕ)) → Option Said
said None = None
said (Some None) = Some None
said (Some (Some e)) = Some (Some (e.0.now, e.1))

abbrev pub included : Text → Option Said
included z =
    if (slice_index z 0 == 60 && nat_lt 0 (run class.Header (drop 1 z))) && slice_index (drop (1 + run class.Header (drop 1 z)) z) 0 == 62
    && ends_line zero false (drop (2 + run class.Header (drop 1 z)) z)
    then Some None else None

abbrev pub negated : Bool → ℕ → ℕ
negated minus v = if minus then (2 ^ 32 - v) % 2 ^ 32 else v

abbrev pub defined_as : Text → Bool → Text → Option ℕ → Option Said
defined_as name minus behind_it None = None
defined_as name minus behind_it (Some v) = if ends_line zero false behind_it then Some (Some (name, negated minus v)) else None

-- the number, with its sign, that the name stands for
abbrev pub stands_for : Text → Text → Option Said
stands_for name z =
    let minus = slice_index z 0 == 45 in
    let w = (if minus then drop 1 z else z) in
    defined_as name minus (past_word w) (number_of (word w))

abbrev pub defining : Text → Option Said
defining z =
    if is_name (word z) then stands_for (word z) (spaced (past_word z)) else None

-- a first word, and what stands behind it
abbrev pub directed : Text → Text → Option Said
directed w z =
    if bytes_eq w (codes "include") then included (spaced z)
    else (if bytes_eq w (codes "define") then defining (spaced z) else None)

-- a line from its `#` on, without its newline
unfoldable pub hash_line : Text → Option Said
hash_line z = directed (word (spaced (drop 1 z))) (past_word (spaced (drop 1 z)))

-- ---- the tokens

-- What is read next: a fault, or some bytes, with the token that they are, and the definitions that hold behind them.
pub data Step : Type 0 where
  Fault : LexKind → Place → Step
  Reads : ℕ → Option Token → List (Text × ℕ) → Step

abbrev pub token_at : Spot → ℕ → TokenKind → Token
token_at s n k = record { start = s.at; end = s.at + n; place = s.place; kind = k }

-- a hash line of n bytes; no name is defined twice
abbrev pub added : List (Text × ℕ) → Spot → ℕ → Text × ℕ → Option ℕ → Step
added defined s n entry None = Reads n None (defined ++ entry ∷ [])
added defined s n entry (Some old) = Fault bad.HashLine s.place

abbrev pub hashed : List (Text × ℕ) → Spot → ℕ → Option Said → Step
hashed defined s n None = Fault bad.HashLine s.place
hashed defined s n (Some None) = Reads n None defined
hashed defined s n (Some (Some entry)) = added defined s n entry (lookup defined entry.0)

-- a piece in front of z
abbrev pub taken : List (Text × ℕ) → Spot → Text → Piece → Step
taken defined s z (piece.Nothing n) = Reads n None defined
taken defined s z (piece.Whole n k) = Reads n (Some (token_at s n k)) defined
taken defined s z (piece.Word n) = Reads n (Some (token_at s n (kind_of_word defined (take n z)))) defined
taken defined s z (piece.Bad k at) = Fault k (along s (take at z)).place

-- a `#` before which only spaces and tabs stand on its line begins a hash line
unfoldable pub step : List (Text × ℕ) → Spot → Text → Step
step defined s z =
    if slice_index z 0 == 35 && s.fresh then hashed defined s (run class.Line z) (hash_line (take (run class.Line z) z))
    else taken defined s z (piece_of z)

-- what the code reads next, under these definitions
abbrev pub seen : List (Text × ℕ) → Next → Step
seen defined (next.Fault k p) = Fault k p
seen defined (next.Skips n) = Reads n None defined
seen defined (next.Gives n t) = Reads n (Some t) defined
seen defined (next.Defines n name v) = Reads n None (defined ++ (name.now, v) ∷ [])

-- and it is some bytes of so many; what they define was not defined before
abbrev pub NextWithin : List (Text × ℕ) → Next → ℕ → Type 0
NextWithin defined (next.Fault k p) size = Unit {0}
NextWithin defined (next.Skips n) size = (0 < n) × (n ≤ size)
NextWithin defined (next.Gives n t) size = (0 < n) × (n ≤ size)
NextWithin defined (next.Defines n name v) size = (0 < n) × (n ≤ size) × (lookup defined name.now ≡ None)

-- the tokens, or the kind of the first fault and its place
abbrev pub Tokens : Type 0
Tokens = Result (List Token) (LexKind × Place)

abbrev pub behind_token : Option Token → Tokens → Tokens
behind_token None all = all
behind_token (Some t) (Ok ts) = Ok (t ∷ ts)
behind_token (Some t) (Err e) = Err e

-- The tokens of the bytes from a spot on, of which the first `inside` have been read.
unfoldable pub tokens_from : List (Text × ℕ) → Spot → ℕ → Text → Tokens
tokens_from defined s inside [] = Ok []
tokens_from defined s (suc n) (b ∷ z) = tokens_from defined (behind s b) n z
tokens_from defined s zero (b ∷ z) =
    elim (step defined s (b ∷ z)) [
      | Fault k p ↦ Err (k, p)
      | Reads n t after ↦ behind_token t (tokens_from after (behind s b) (pred n) z)
    ]

abbrev pub tokens : Text → Tokens
tokens z = tokens_from [] first_spot zero z

-- the answer is these tokens or this fault, unless memory ran out
abbrev pub Lexes : Result (Vec Token Global) LexRefusal → Tokens → Type 0
Lexes (Ok v) all = all ≡ Ok v.items
Lexes (Err (refusal.Refused k p)) all = all ≡ Err (k, p)
Lexes (Err refusal.NoMemory) all = Unit {0}
