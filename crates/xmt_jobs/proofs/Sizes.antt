-- How many words a run and a map leave.
use Rattle.std.proofs.Common.{◌≡◌, ◌∙◌, refl, sym, ap, subst, ℕ, ◌+◌, ◌*◌, ◌≤◌, Bool, true, false, if◌then◌else◌, nat_lt, List, [], ◌∷◌, ◌++◌, length, length-append, length-drop, take, drop, replicate, slice_get, slice_set, unwrap_or, Option, Some, None, Result, Ok, Err, IfOk, arith}
use Rattle.std.specs.Prelude.{IfSome}
use Rattle.std.specs.Option.{option_and_then}
use Rattle.std.proofs.Math.ListN.{length-set, length-take}
use Rattle.xmt_base.specs.declared.values.Symbol.{Symbol}
use Rattle.xmt_base.specs.Name.{is_name}
use Rattle.xmt_isa.specs.declared.image.Image.{Image}
use Rattle.xmt_isa.specs.declared.unit.Unit as unit
use Rattle.xmt_isa.specs.declared.unit.Request.{Request}
use Rattle.xmt_isa.specs.declared.unit.Request.TheVariants.{Load, Store, Add, Draw, Print, Spawn}
use Rattle.xmt_isa.specs.declared.unit.Next.{Next}
use Rattle.xmt_isa.specs.declared.unit.Next.TheVariants as next
use Rattle.xmt_isa.specs.Machine.{Machine, serves, moves, turn_of, turn, after}
use Rattle.xmt_isa.specs.Opening.{opening, opening_words, zeros_of}
use Rattle.xmt_isa.specs.Step.{next_of}
use Rattle.xmt_isa.specs.Legal.{RunsTo}
use Rattle.machine_turns.specs.Runs.{data_words}
use Rattle.memory_map.specs.declared.read.MapRefusal.{MapRefusal}
use Rattle.memory_map.specs.declared.read.Reading.{Reading}
use Rattle.memory_map.specs.MapText.{MapText, index_of, opening_of, put_values, read_values, read_symbol, read_named, read_line, read_lines, and_then}
use Rattle.memory_map.specs.Words.{value_of, words_of, text_lines}

-- ---- turns keep the number of words

serves_size : (image : Image) (m : Machine) (k : ℕ) (u : unit.Unit) (r : Request) → length (serves image m k u r).words ≡ length m.words
serves_size image m k u (Load at) = refl
serves_size image m k u (Store at value) = length-set m.words at value
serves_size image m k u (Add at value) = length-set m.words at _
serves_size image m k u (Print text) = refl
serves_size image m k u Draw = refl
serves_size image m k u (Spawn ask) = refl

moves_size : (image : Image) (m : Machine) (k : ℕ) (u : unit.Unit) (n : Next) → length (moves image m k u n).words ≡ length m.words
moves_size image m k u next.Local = refl
moves_size image m k u (next.Trap kind) = refl
moves_size image m k u (next.Ask request) = serves_size image m k u request

turn_size : (image : Image) (m : Machine) (k : ℕ) (o : Option unit.Unit) → length (turn_of image m k o).words ≡ length m.words
turn_size image m k None = refl
turn_size image m k (Some u) = moves_size image m k u (next_of image m.start u)

after_size : (image : Image) (m : Machine) (turns : List ℕ) → length (after image m turns).words ≡ length m.words
after_size image m [] = refl
after_size image m (k ∷ ks) = after_size image (turn image m k) ks ∙ turn_size image m k (slice_get m.units k)

opening_room : (ps memory outer : List ℕ) → length ps ≡ 8 → 12 + length memory ≤ length (replicate 4 0 ++ ps ++ memory ++ outer)
opening_room ps memory outer eight = omega (arith, length-append (replicate 4 0 ++ ps ++ memory) outer, length-append (replicate 4 0 ++ ps) memory, length-append (replicate 4 0) ps)

front_size : (n : ℕ) (words : List ℕ) → 12 + n ≤ length words → length (take n (drop 12 words)) ≡ n
front_size n words room = omega (arith, length-take n (drop 12 words), length-drop 12 words)

-- a run leaves as many data words as the image has
pub data_size : (image : Image) (memory : List ℕ) (n : ℕ) (m : Machine) → length image.ps ≡ 8 → length memory ≡ length image.words → RunsTo image (opening image memory n) m → length (data_words image m.words) ≡ length image.words
data_size image memory n m eight same h =
    let kept : length m.words ≡ length (opening_words image memory) = sym (ap (λ (x : Machine). length x.words) h.2) ∙ after_size image (opening image memory n) h.0 in
    let room : 12 + length memory ≤ length (opening_words image memory) = opening_room image.ps memory (zeros_of (257 * image.outer)) eight in
    front_size (length image.words) m.words (omega (arith, kept, room, same))

-- ---- a map keeps the number of words

if_some_then : (o : Option ℕ) (f : ℕ → Option (List ℕ)) (P : List ℕ → Type 0) → ((v : ℕ) → IfSome (f v) P) → IfSome (option_and_then f o) P
if_some_then None f P h = tt
if_some_then (Some v) f P h = h v

if_either : (b : Bool) (x y : Result Reading MapRefusal) (P : Reading → Type 0) → IfOk x P → IfOk y P → IfOk (if b then x else y) P
if_either true x y P h k = h
if_either false x y P h k = k

values_kept : (at : ℕ) (words : List ℕ) (texts : List (List ℕ)) (n : ℕ) → length words ≡ n → IfSome (put_values at words texts) (λ new. length new ≡ n)
values_kept at words [] n same = same
values_kept at words (text ∷ texts) n same =
    if_some_then (value_of text) (λ value. put_values (at + 1) (slice_set words at value) texts) (λ new. length new ≡ n)
    (λ value. values_kept (at + 1) (slice_set words at value) texts n (length-set words at value ∙ same))

marked_kept : (number : ℕ) (named : List Bool) (k : ℕ) (o : Option (List ℕ)) (n : ℕ) → IfSome o (λ new. length new ≡ n) → IfOk (read_values number named k o) (λ (new : Reading). length new.words ≡ n)
marked_kept number named k None n h = tt
marked_kept number named k (Some words) n h = h

symbol_kept : (number : ℕ) (old : Reading) (k : ℕ) (s : Option Symbol) (texts : List (List ℕ)) → IfOk (read_symbol number old k s texts) (λ (new : Reading). length new.words ≡ length old.words)
symbol_kept number old k None texts = tt
symbol_kept number old k (Some s) texts =
    if_either (nat_lt s.length (length texts)) _ (read_values number old.named k (put_values s.base old.words texts)) (λ (new : Reading). length new.words ≡ length old.words) tt
    (marked_kept number old.named k (put_values s.base old.words texts) (length old.words) (values_kept s.base old.words texts (length old.words) refl))

named_kept : (symbols : List Symbol) (number : ℕ) (old : Reading) (place : Option ℕ) (texts : List (List ℕ)) → IfOk (read_named symbols number old place texts) (λ (new : Reading). length new.words ≡ length old.words)
named_kept symbols number old None texts = tt
named_kept symbols number old (Some k) texts =
    if_either (unwrap_or (slice_get old.named k) false) _ (read_symbol number old k (slice_get symbols k) texts) (λ (new : Reading). length new.words ≡ length old.words) tt
    (symbol_kept number old k (slice_get symbols k) texts)

line_kept : (symbols : List Symbol) (number : ℕ) (old : Reading) (words : List (List ℕ)) → IfOk (read_line symbols number old words) (λ (new : Reading). length new.words ≡ length old.words)
line_kept symbols number old [] = refl
line_kept symbols number old (name ∷ texts) =
    if_either (is_name name) (read_named symbols number old (index_of symbols name) texts) _ (λ (new : Reading). length new.words ≡ length old.words)
    (named_kept symbols number old (index_of symbols name) texts) tt

then_kept : (r : Result Reading MapRefusal) (f : Reading → Result Reading MapRefusal) (n : ℕ) → IfOk r (λ (x : Reading). length x.words ≡ n) →
    ((x : Reading) → IfOk (f x) (λ (y : Reading). length y.words ≡ length x.words)) → IfOk (and_then r f) (λ (y : Reading). length y.words ≡ n)
then_kept (Ok x) f n h k = subst (λ (m : ℕ). IfOk (f x) (λ (y : Reading). length y.words ≡ m)) h (k x)
then_kept (Err fault) f n h k = tt

lines_kept : (symbols : List Symbol) (number : ℕ) (old : Reading) (lines : List (List ℕ)) → IfOk (read_lines symbols number old lines) (λ (new : Reading). length new.words ≡ length old.words)
lines_kept symbols number old [] = refl
lines_kept symbols number old (line ∷ lines) =
    then_kept (read_line symbols number old (words_of line)) (λ new. read_lines symbols (number + 1) new lines) (length old.words) (line_kept symbols number old (words_of line))
    (λ new. lines_kept symbols (number + 1) new lines)

pub map_size : (bytes : List ℕ) (symbols : List Symbol) (old new : List ℕ) → MapText bytes symbols old new → length new ≡ length old
map_size bytes symbols old new h = subst (λ (r : Result Reading MapRefusal). IfOk r (λ (x : Reading). length x.words ≡ length old)) h.1 (lines_kept symbols 1 (opening_of symbols old) (text_lines bytes))
