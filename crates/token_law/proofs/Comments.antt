-- The end of a comment.
use Rattle.std.proofs.Common.{◌≡◌, ℕ, ◌+◌, ◌≤◌, ◌<◌, ◌==◌, ◌&&◌, Bool, true, false, cond, [], ◌∷◌, ◌++◌, length, slice_index, Some, None, refl, sym, ap, ◌∙◌, arith}
use Rattle.xmt_lex.specs.Lex.{Text, comment_end}
use Rattle.token_law.specs.Spelling.{HasNoEnd}
use Rattle.token_law.proofs.Bytes.{same_byte, both}

-- whether `*/` stands in front
abbrev ends : ℕ → Text → Bool
ends b z = b == 42 && slice_index z 0 == 47

no_end_here : (b : ℕ) (z : Text) → ends b z ≡ false → HasNoEnd z → HasNoEnd (b ∷ z)
no_end_here b z is none [] y same =
    let first : b ≡ 42 = cc in
    let more : z ≡ 47 ∷ y = cc in
    let stands : ends b z ≡ true = ap (λ (c : ℕ). ends c z) first ∙ ap (ends 42) more in
    absurd (let wrong : true ≡ false = sym stands ∙ is in cc)
no_end_here b z is none (c ∷ x) y same = none x y cc

nothing_ends : HasNoEnd []
nothing_ends [] y same = absurd (cc)
nothing_ends (c ∷ x) y same = absurd (cc)

star_ends : HasNoEnd (42 ∷ [])
star_ends = no_end_here 42 [] refl nothing_ends

behind_first : (b : ℕ) (w : Text) → HasNoEnd (b ∷ w) → HasNoEnd w
behind_first b w none x y same = none (b ∷ x) y (ap (λ (v : Text). b ∷ v) same)

-- the byte behind, which is `/`
slash_behind : (z : Text) → (slice_index z 0 == 47) ≡ true → (y : Text) × (z ≡ 47 ∷ y)
slash_behind [] h = absurd (let wrong : false ≡ true = h in cc)
slash_behind (b ∷ z) h = (z, ap (λ (c : ℕ). c ∷ z) (same_byte b 47 h))

same_first : (x y : Text) → slice_index (x ++ 42 ∷ 47 ∷ y) 0 ≡ slice_index (x ++ 42 ∷ []) 0
same_first [] y = refl
same_first (c ∷ x) y = refl

-- ---- the end in front

pub data CommentFront (at : ℕ) (z : Text) : Type 0 where
  found : (x y : Text) → z ≡ x ++ 42 ∷ 47 ∷ y → HasNoEnd (x ++ 42 ∷ []) → comment_end at z ≡ Some (at + length x + 2) → CommentFront at z
  endless : HasNoEnd z → comment_end at z ≡ None → CommentFront at z

ended : (b at : ℕ) (z : Text) (t : Bool) → ends b z ≡ t → comment_end at (b ∷ z) ≡ cond t (Some (at + 2)) (comment_end (at + 1) z)
ended b at z t is = ap (λ (t : Bool). cond t (Some (at + 2)) (comment_end (at + 1) z)) is

further : (b at : ℕ) (z : Text) (t : Bool) → ends b z ≡ t → CommentFront (at + 1) z → CommentFront at (b ∷ z)
further b at z true is rest =
    let parts = both (b == 42) (slice_index z 0 == 47) is in
    let slash = slash_behind z parts.1 in
    found [] slash.0 (ap (λ (c : ℕ). c ∷ z) (same_byte b 42 parts.0) ∙ ap (λ (v : Text). 42 ∷ v) slash.1) star_ends (ended b at z true is ∙ ap Some (let far : at + 2 ≡ at + 0 + 2 = omega arith in far))
further b at z false is (found x y split open_so_far seen) =
    let other : ends b (x ++ 42 ∷ []) ≡ false = ap (λ (c : ℕ). b == 42 && c == 47) (sym (same_first x y) ∙ ap (λ (v : Text). slice_index v 0) (sym split)) ∙ is in
    found (b ∷ x) y (ap (λ (v : Text). b ∷ v) split) (no_end_here b (x ++ 42 ∷ []) other open_so_far) (ended b at z false is ∙ seen ∙ ap Some (let far : at + 1 + length x + 2 ≡ at + length (b ∷ x) + 2 = omega arith in far))
further b at z false is (endless open_so_far seen) = endless (no_end_here b z is open_so_far) (ended b at z false is ∙ seen)

pub comment_front : (at : ℕ) (z : Text) → CommentFront at z
comment_front at [] = endless nothing_ends refl
comment_front at (b ∷ z) = further b at z (ends b z) refl (comment_front (at + 1) z)

-- ---- where a comment ends

-- `*/` doesn't stand in front of bytes in which it stands nowhere
never_here : (b : ℕ) (w y : Text) → HasNoEnd (b ∷ (w ++ 42 ∷ [])) → ends b ((w ++ 42 ∷ 47 ∷ []) ++ y) ≡ false
never_here b w y none = by (ends b ((w ++ 42 ∷ 47 ∷ []) ++ y)) refl
  where
    inside : (w : Text) → HasNoEnd (b ∷ (w ++ 42 ∷ [])) → b ≡ 42 → (slice_index ((w ++ 42 ∷ 47 ∷ []) ++ y) 0 == 47) ≡ true → ⊥
    inside [] none star slash = absurd (let wrong : false ≡ true = slash in cc)
    inside (c ∷ w) none star slash = none [] (w ++ 42 ∷ []) (ap (λ (d : ℕ). d ∷ c ∷ (w ++ 42 ∷ [])) star ∙ ap (λ (d : ℕ). 42 ∷ d ∷ (w ++ 42 ∷ [])) (same_byte c 47 slash))

    by : (t : Bool) → ends b ((w ++ 42 ∷ 47 ∷ []) ++ y) ≡ t → t ≡ false
    by false is = refl
    by true is = let parts = both (b == 42) (slice_index ((w ++ 42 ∷ 47 ∷ []) ++ y) 0 == 47) is in absurd (inside w none (same_byte b 42 parts.0) parts.1)

pub comment_reads : (w y : Text) (at : ℕ) → HasNoEnd (w ++ 42 ∷ []) → comment_end at ((w ++ 42 ∷ 47 ∷ []) ++ y) ≡ Some (at + length w + 2)
comment_reads [] y at none = ap Some (let far : at + 2 ≡ at + 0 + 2 = omega arith in far)
comment_reads (b ∷ w) y at none =
    ended b at ((w ++ 42 ∷ 47 ∷ []) ++ y) false (never_here b w y none) ∙ comment_reads w y (at + 1) (behind_first b (w ++ 42 ∷ []) none)
    ∙ ap Some (let far : at + 1 + length w + 2 ≡ at + length (b ∷ w) + 2 = omega arith in far)

-- an end comes behind its first two bytes
pub end_after : (z : Text) (at n : ℕ) → comment_end at z ≡ Some n → at + 2 ≤ n
end_after [] at n is = absurd (cc)
end_after (b ∷ z) at n is = by (end_after z (at + 1) n) (ends b z) refl
  where
    by : (comment_end (at + 1) z ≡ Some n → at + 1 + 2 ≤ n) → (t : Bool) → ends b z ≡ t → at + 2 ≤ n
    by rest true here = let found : Some (at + 2) ≡ Some n = sym (ended b at z true here) ∙ is in let same : at + 2 ≡ n = cc in omega (arith, same)
    by rest false here = let found : comment_end (at + 1) z ≡ Some n = sym (ended b at z false here) ∙ is in omega (arith, rest found)

-- bytes without an end are shorter than up to the end
pub open_fits : (w y : Text) (at n : ℕ) → HasNoEnd w → comment_end at (w ++ y) ≡ Some n → at + length w < n
open_fits [] y at n none is = omega (arith, end_after y at n is)
open_fits (b ∷ w) y at n none is = by (open_fits w y (at + 1) n (behind_first b w none)) (ends b (w ++ y)) refl
  where
    inside : (w : Text) → HasNoEnd (b ∷ w) → b ≡ 42 → (slice_index (w ++ y) 0 == 47) ≡ true → length w ≡ 0
    inside [] none star slash = refl
    inside (c ∷ w) none star slash = absurd (none [] w (ap (λ (d : ℕ). d ∷ c ∷ w) star ∙ ap (λ (d : ℕ). 42 ∷ d ∷ w) (same_byte c 47 slash)))

    by : (comment_end (at + 1) (w ++ y) ≡ Some n → at + 1 + length w < n) → (t : Bool) → ends b (w ++ y) ≡ t → at + length (b ∷ w) < n
    by rest true here =
        let found : Some (at + 2) ≡ Some n = sym (ended b at (w ++ y) true here) ∙ is in
        let same : at + 2 ≡ n = cc in
        let parts = both (b == 42) (slice_index (w ++ y) 0 == 47) here in
        let short : length w ≡ 0 = inside w none (same_byte b 42 parts.0) parts.1 in
        omega (arith, same, short)
    by rest false here = let found : comment_end (at + 1) (w ++ y) ≡ Some n = sym (ended b at (w ++ y) false here) ∙ is in omega (arith, rest found)
