-- Facts on what was printed.
use Rattle.std.proofs.Common.{◌≡◌, ℕ, ◌+◌, List, ◌++◌, ◌-◌, length, take, drop, Some, None, Option, ap, ◌∙◌, arith, append_assoc, append-nil, [], refl, sym}
use Rattle.std.proofs.lemmas.List.{take-append-drop, drop-take, take-take}
use Rattle.std.proofs.lemmas.Grind.{common_steps}
use Rattle.machine_turns.specs.Prints.{Prints}

-- nothing was printed
pub prints_nothing : (out : Option (List ℕ)) → Prints [] out out
prints_nothing None = refl
prints_nothing (Some bytes) = ap (λ known. Some known) (sym (append-nil bytes))

-- two prefixes, one behind the other
take_more_of : (bytes : List ℕ) (at n : ℕ) → take at bytes ++ take n (drop at bytes) ≡ take (at + n) bytes
take_more_of bytes at n =
    let whole = take-append-drop at (take (at + n) bytes) in
    let behind : drop at (take (at + n) bytes) ≡ take n (drop at bytes) = drop-take at n bytes in
    let front : take at (take (at + n) bytes) ≡ take at bytes = take-take at (at + n) bytes (omega arith) in
    rw (front, behind) at whole

-- what was printed first and what was printed then
pub prints_then : (first then : List ℕ) (old mid new : Option (List ℕ)) → Prints first old mid → Prints then mid new → Prints (first ++ then) old new
prints_then first then None mid new p q = rw p at q
prints_then first then (Some out) mid new p q = (rw p at q) ∙ ap (λ bytes. Some bytes) (append_assoc out first then)

-- a further piece was printed
pub prints_more : (bytes : List ℕ) (at n : ℕ) (old mid new : Option (List ℕ)) → Prints (take at bytes) old mid → Prints (take n (drop at bytes)) mid new → Prints (take (at + n) bytes) old new
prints_more bytes at n old mid new p q = rw (← take_more_of bytes at n) (prints_then (take at bytes) (take n (drop at bytes)) old mid new p q)

-- a slice to the end
pub slice_rest : (bytes : List ℕ) (at : ℕ) → take (length bytes - at) (drop at bytes) ≡ drop at bytes
slice_rest bytes at = grind (arith, common_steps)
