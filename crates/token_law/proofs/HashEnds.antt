-- The rest of a hash line.
use Rattle.std.proofs.Common.{◌≡◌, ℕ, zero, suc, ◌+◌, ◌≤◌, ◌==◌, ◌&&◌, Bool, true, false, cond, [], ◌∷◌, ◌++◌, length, length-append, append_assoc, drop, slice_index, Some, None, refl, sym, ap, ◌∙◌, subst, arith}
use Rattle.std.proofs.Math.Seq.{drop-append_seam}
use Rattle.xmt_lex.specs.declared.scan.Class.TheVariants as class
use Rattle.xmt_lex.specs.Lex.{Text, is_in, comment_end, ends_line}
use Rattle.xmt_lex.proofs.Walk.{line_commented}
use Rattle.token_law.specs.Spelling.{HasNoEnd}
use Rattle.token_law.specs.HashLine.{EndsHash, end, space, carriage_return, line_comment, comment}
use Rattle.token_law.proofs.Bytes.{same_byte}
use Rattle.token_law.proofs.Front.{two_bytes}
use Rattle.token_law.proofs.Comments.{CommentFront, found, endless, comment_front, comment_reads}

-- behind a comment
comment_behind : (returned : Bool) (w z : Text) → HasNoEnd (w ++ 42 ∷ []) → ends_line zero returned (47 ∷ 42 ∷ (w ++ 42 ∷ 47 ∷ z)) ≡ ends_line zero returned z
comment_behind returned w z none =
    let seen : comment_end 2 (w ++ 42 ∷ 47 ∷ z) ≡ Some (2 + length w + 2) = ap (comment_end 2) (sym (append_assoc w (42 ∷ 47 ∷ []) z)) ∙ comment_reads w z 2 none in
    let size : 2 + length w + 2 ≡ length (47 ∷ 42 ∷ (w ++ 42 ∷ 47 ∷ [])) = omega (arith, length-append w (42 ∷ 47 ∷ [])) in
    let cut : 47 ∷ 42 ∷ (w ++ 42 ∷ 47 ∷ z) ≡ (47 ∷ 42 ∷ (w ++ 42 ∷ 47 ∷ [])) ++ z = ap (λ (v : Text). 47 ∷ 42 ∷ v) (sym (append_assoc w (42 ∷ 47 ∷ []) z)) in
    line_commented returned (47 ∷ 42 ∷ (w ++ 42 ∷ 47 ∷ z)) (2 + length w + 2) refl refl seen (omega arith)
    ∙ ap (ends_line zero returned) (ap (λ (n : ℕ). drop n (47 ∷ 42 ∷ (w ++ 42 ∷ 47 ∷ z))) size ∙ ap (drop (length (47 ∷ 42 ∷ (w ++ 42 ∷ 47 ∷ [])))) cut ∙ drop-append_seam (47 ∷ 42 ∷ (w ++ 42 ∷ 47 ∷ [])) z)

-- behind a space or a tab
space_behind : (returned : Bool) (b : ℕ) (z : Text) → is_in class.Space b ≡ true → ends_line zero returned (b ∷ z) ≡ ends_line zero returned z
space_behind returned b z h = rw h

pub ends_read : {returned : Bool} {z : Text} → EndsHash returned z → ends_line zero returned z ≡ true
ends_read end = refl
ends_read {returned = returned} (space b {z = z} h rest) = space_behind returned b z h ∙ ends_read rest
ends_read (carriage_return rest) = ends_read rest
ends_read (line_comment z) = refl
ends_read {returned = returned} (comment w {z = z} none rest) = comment_behind returned w z none ∙ ends_read rest

-- ---- what is read is such a rest

other_behind : (returned : Bool) (b : ℕ) (z : Text) → is_in class.Space b ≡ false → (b == 13) ≡ false → (b == 47 && slice_index z 0 == 47) ≡ false → (b == 47 && slice_index z 0 == 42) ≡ false → ends_line zero returned (b ∷ z) ≡ false
other_behind returned b z s r l c = rw (s, r, l, c)

return_behind : (b : ℕ) (z : Text) → is_in class.Space b ≡ false → (b == 13) ≡ true → (returned : Bool) → ends_line zero returned (b ∷ z) ≡ cond returned false (ends_line zero true z)
return_behind b z s r returned = rw (s, r)

open_behind : (returned : Bool) (z : Text) → comment_end 2 z ≡ None → ends_line zero returned (47 ∷ 42 ∷ z) ≡ false
open_behind returned z none = rw none

one_found : (n : ℕ) (b : ℕ) (z : Text) → length z ≤ n → ((u : Text) → length u ≤ n → (returned : Bool) → ends_line zero returned u ≡ true → EndsHash returned u) → (returned : Bool) → ends_line zero returned (b ∷ z) ≡ true → EndsHash returned (b ∷ z)
one_found n b z few more returned all = by (is_in class.Space b) (b == 13) (b == 47 && slice_index z 0 == 47) (b == 47 && slice_index z 0 == 42) refl refl refl refl
  where
    back : (r : Bool) → ends_line zero r (b ∷ z) ≡ true → is_in class.Space b ≡ false → (b == 13) ≡ true → EndsHash r (b ∷ z)
    back true h s is = absurd (let wrong : false ≡ true = sym (return_behind b z s is true) ∙ h in cc)
    back false h s is = subst (λ (c : ℕ). EndsHash false (c ∷ z)) (sym (same_byte b 13 is)) (carriage_return (more z few true (sym (return_behind b z s is false) ∙ h)))

    inside : (y : Text) → (b ∷ z) ≡ 47 ∷ 42 ∷ y → CommentFront 2 y → EndsHash returned (47 ∷ 42 ∷ y)
    inside y is (found x u split open_so_far seen) =
        let whole : 47 ∷ 42 ∷ y ≡ 47 ∷ 42 ∷ (x ++ 42 ∷ 47 ∷ u) = ap (λ (v : Text). 47 ∷ 42 ∷ v) split in
        let size : length u ≤ n = omega (arith, few, ap length is, ap length whole, length-append x (42 ∷ 47 ∷ u)) in
        subst (EndsHash returned) (sym whole) (comment x open_so_far (more u size returned (sym (comment_behind returned x u open_so_far) ∙ ap (ends_line zero returned) (sym whole) ∙ ap (ends_line zero returned) (sym is) ∙ all)))
    inside y is (endless open_so_far seen) = absurd (let wrong : false ≡ true = sym (open_behind returned y seen) ∙ ap (ends_line zero returned) (sym is) ∙ all in cc)

    by : (s r l c : Bool) → is_in class.Space b ≡ s → (b == 13) ≡ r → (b == 47 && slice_index z 0 == 47) ≡ l → (b == 47 && slice_index z 0 == 42) ≡ c → EndsHash returned (b ∷ z)
    by true _ _ _ is _ _ _ = space b is (more z few returned (sym (space_behind returned b z is) ∙ all))
    by false true _ _ s is _ _ = back returned all s is
    by false false true _ _ _ is _ = let front = two_bytes (b ∷ z) 47 47 is refl refl in subst (EndsHash returned) (sym front.1) (line_comment front.0)
    by false false false true _ _ _ is = let front = two_bytes (b ∷ z) 47 42 is refl refl in subst (EndsHash returned) (sym front.1) (inside front.0 front.1 (comment_front 2 front.0))
    by false false false false s r l c = absurd (let wrong : false ≡ true = sym (other_behind returned b z s r l c) ∙ all in cc)

ends_within : (n : ℕ) (z : Text) → length z ≤ n → (returned : Bool) → ends_line zero returned z ≡ true → EndsHash returned z
ends_within n [] few returned all = end
ends_within zero (b ∷ z) few returned all = absurd (omega (arith, few))
ends_within (suc n) (b ∷ z) few returned all = one_found n b z (omega (arith, few)) (λ u small r h. ends_within n u small r h) returned all

pub ends_found : (z : Text) → ends_line zero false z ≡ true → EndsHash false z
ends_found z all = ends_within (length z) z (omega arith) false all
