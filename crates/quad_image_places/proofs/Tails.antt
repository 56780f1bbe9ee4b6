-- Where the code of each quad stands in the code of a program.
use Rattle.std.proofs.Common.{◌≡◌, refl, sym, ◌∙◌, ap, subst, arith, ℕ, zero, suc, ◌+◌, ◌<◌, ◌≤◌, List, [], ◌∷◌, ◌++◌, length, length-append, append_assoc, get_or, take, drop, replicate, Some}
use Rattle.std.specs.Prelude.{Bool, ◌==◌, not, cond, if◌then◌else◌, count_by, sum_by, slice_get}
use Rattle.std.specs.List.{prefix_len}
use Rattle.std.proofs.lemmas.List.{take_at, drop_at, take_all, drop_all, get_or-append-add, get_or_append_left, get_or-replicate, length-replicate}
use Rattle.std.proofs.lemmas.List.Sums.{sum_by-cons, sum_by-append}
use Rattle.xmt_isa.specs.declared.image.Instr.{Instr}
use Rattle.xmt_quads.specs.declared.code.Quad.{Quad}
use Rattle.xmt_quads.specs.declared.code.Quad.TheVariants as quad
use Rattle.xmt_quads.specs.declared.code.QuadFunction.{QuadFunction}
use Rattle.xmt_quads.specs.Program.{is_spawn, spawns_in}
use Rattle.quad_images.specs.Instructions.{quad_code, size}
use Rattle.quad_images.specs.Image.{own_behind, all_own, size_of, begins_in, code_from, function_code, lines_from, codes_from, lines_of_all, entries_from}
use Rattle.quad_image_places.proofs.Own.{own_at, IsPlain, some_is}
use Rattle.quad_image_places.proofs.Quiet.{spawns_here, quiet_prefix, quiet_code, spawns_of, length_of}

-- ---- sums along a list

pub sum_next : {X : Type 0} (f : X → ℕ) (xs : List X) (at : ℕ) (x : X) → slice_get xs at ≡ Some x → sum_by f (take (suc at) xs) ≡ sum_by f (take at xs) + f x
sum_next f [] at x here = cc
sum_next f (y ∷ xs) zero x here = ap (λ y. 0 + f y) (some_is y x here)
sum_next f (y ∷ xs) (suc at) x here =
    let rest = sum_next f xs at x here in
    let a = sum_by-cons f y (take (suc at) xs) in
    let b = sum_by-cons f y (take at xs) in
    omega (arith, a, b, rest)

pub sum_past : {X : Type 0} (f : X → ℕ) (xs : List X) (n k : ℕ) → sum_by f (take (n + k) xs) ≡ sum_by f (take n xs) + sum_by f (take k (drop n xs))
sum_past f xs zero k = let e : 0 + k ≡ k = omega arith in ap (λ n. sum_by f (take n xs)) e ∙ omega arith
sum_past f [] (suc n) k = let e : suc n + k ≡ suc (n + k) = omega arith in ap (λ n. sum_by f (take n [])) e ∙ by k
  where
    by : (k : ℕ) → 0 ≡ 0 + sum_by f (take k [])
    by zero = refl
    by (suc k) = refl
sum_past f (x ∷ xs) (suc n) k =
    let e : suc n + k ≡ suc (n + k) = omega arith in
    let rest = sum_past f xs n k in
    let a = sum_by-cons f x (take (n + k) xs) in
    let b = sum_by-cons f x (take n xs) in
    ap (λ n. sum_by f (take n (x ∷ xs))) e ∙ omega (arith, a, b, rest)

-- ---- the rest of the code

-- from a place on, behind so many spawns, the code is this
pub record Tail (code : List Instr) (at sites : ℕ) (tail : List Instr) : Type 0 where
  pub front : List Instr
  pub is : code ≡ front ++ tail
  pub long : length front ≡ at
  pub spawned : count_by spawns_here front ≡ sites

pub tail_more : (code : List Instr) (at sites n more : ℕ) (part rest : List Instr) → Tail code at sites (part ++ rest) → length part ≡ n → count_by spawns_here part ≡ more → Tail code (at + n) (sites + more) rest
tail_more code at sites n more part rest t long spawned =
    let first = t.long in
    let counted = t.spawned in
    record {
      front = t.front ++ part;
      is = t.is ∙ sym (append_assoc t.front part rest);
      long = omega (arith, length-append t.front part, long, first);
      spawned = sum_by-append (λ i. cond (i.op == 44) 1 0) t.front part ∙ omega (arith, spawned, counted);
    }

tail_as : (code : List Instr) (at there sites counted : ℕ) (tail : List Instr) → at ≡ there → sites ≡ counted → Tail code at sites tail → Tail code there counted tail
tail_as code at there sites counted tail e f t = subst (λ at. Tail code at counted tail) e (subst (λ sites. Tail code at sites tail) f t)

pub tail_is : (code : List Instr) (at sites : ℕ) (tail other : List Instr) → tail ≡ other → Tail code at sites tail → Tail code at sites other
tail_is code at sites tail other e t = subst (Tail code at sites) e t

-- what is at a place of the code
pub first_of_tail : (code : List Instr) (at sites : ℕ) (i : Instr) (rest : List Instr) → Tail code at sites (i ∷ rest) → slice_get code at ≡ Some i
first_of_tail code at sites i rest t = ap (λ code. slice_get code at) t.is ∙ ap (λ n. slice_get (t.front ++ (i ∷ rest)) n) (sym t.long) ∙ seam t.front
  where
    seam : (front : List Instr) → slice_get (front ++ (i ∷ rest)) (length front) ≡ Some i
    seam [] = refl
    seam (x ∷ front) = seam front

pub spawns_before : (code : List Instr) (at sites : ℕ) (tail : List Instr) → Tail code at sites tail → count_by spawns_here (take at code) ≡ sites
spawns_before code at sites tail t = ap (λ code. count_by spawns_here (take at code)) t.is ∙ ap (count_by spawns_here) (take_at t.front tail at t.long) ∙ t.spawned

pub rest_is : (code : List Instr) (at sites : ℕ) (tail : List Instr) → Tail code at sites tail → drop at code ≡ tail
rest_is code at sites tail t = ap (drop at) t.is ∙ drop_at t.front tail at t.long

-- ---- in a function

module _ (slot begins : ℕ → ℕ) where
  -- from the code of a quad on
  pub tail_at : (code : List Instr) (quads : List Quad) (at start sites : ℕ) (own : ℕ → Bool) (rest : List Instr) → at ≤ length quads → Tail code start sites (code_from slot begins own quads ++ rest) →
      Tail code (start + size_of (take at quads)) (sites + spawns_in (take at quads)) (code_from slot begins (own_at own quads at) (drop at quads) ++ rest)
  tail_at code quads zero start sites own rest most t = tail_as code start (start + 0) sites (sites + 0) (code_from slot begins own quads ++ rest) (omega arith) (omega arith) t
  tail_at code [] (suc at) start sites own rest most t = absurd (omega (arith, most))
  tail_at code (q ∷ quads) (suc at) start sites own rest most t =
      let part = quad_code slot begins own q in
      let own' = own_behind own q quads in
      let more = code_from slot begins own' quads in
      let split = tail_is code start sites ((part ++ more) ++ rest) (part ++ (more ++ rest)) (append_assoc part more rest) t in
      let behind = tail_more code start sites (size q) (is_spawn q) part (more ++ rest) split (length_of slot begins own q) (spawns_of slot begins own q) in
      let further = tail_at code quads at (start + size q) (sites + is_spawn q) own' rest (omega (arith, most)) behind in
      let sizes = sum_by-cons size q (take at quads) in
      let counts = sum_by-cons is_spawn q (take at quads) in
      tail_as code (start + size q + size_of (take at quads)) (start + size_of (q ∷ take at quads)) (sites + is_spawn q + spawns_in (take at quads)) (sites + spawns_in (q ∷ take at quads))
      (code_from slot begins (own_at own' quads at) (drop at quads) ++ rest) (omega (arith, sizes)) (omega (arith, counts)) further

  -- ---- where a join stands

  pub join_position : (quads : List Quad) (n : ℕ) (own : ℕ → Bool) (rest : List Instr) → slice_get quads n ≡ Some quad.Join → ((j : ℕ) (q : Quad) → j < n → slice_get quads j ≡ Some q → IsPlain q) →
      prefix_len (λ i. not (i.op == 45)) (code_from slot begins own quads ++ rest) ≡ size_of (take n quads)
  join_position [] n own rest here plain = cc
  join_position (q ∷ quads) zero own rest here plain = ap (λ q. prefix_len (λ i. not (i.op == 45)) (code_from slot begins own (q ∷ quads) ++ rest)) (some_is q quad.Join here)
  join_position (q ∷ quads) (suc n) own rest here plain =
      let part = quad_code slot begins own q in
      let more = code_from slot begins (own_behind own q quads) quads in
      let further = join_position quads n (own_behind own q quads) rest here (λ j p less is. plain (suc j) p (omega (arith, less)) is) in
      let through = quiet_prefix part (more ++ rest) (quiet_code slot begins own q (plain 0 q (omega arith) refl)) in
      let long = length_of slot begins own q in
      let sizes = sum_by-cons size q (take n quads) in
      ap (prefix_len (λ i. not (i.op == 45))) (append_assoc part more rest) ∙ omega (arith, through, further, long, sizes)

  pub length_code : (quads : List Quad) (own : ℕ → Bool) → length (code_from slot begins own quads) ≡ size_of quads
  length_code [] own = refl
  length_code (q ∷ quads) own =
      let part = quad_code slot begins own q in
      let more = code_from slot begins (own_behind own q quads) quads in
      omega (arith, length-append part more, length_of slot begins own q, length_code quads (own_behind own q quads), sum_by-cons size q quads)

-- ---- in a program

-- where these functions end, and how many spawns they have
abbrev pub sizes_of : List QuadFunction → ℕ
sizes_of functions = sum_by (λ f. size_of f.quads) functions

abbrev pub sites_of : List QuadFunction → ℕ
sites_of functions = sum_by (λ f. spawns_in f.quads) functions

-- the code of a function with the rest behind it
pub record FunctionTail (slot : ℕ → ℕ → ℕ) (code : List Instr) (start sites number : ℕ) (quads : List Quad) : Type 0 where
  pub rest : List Instr
  pub tail : Tail code start sites (function_code (slot number) start quads ++ rest)

pub function_tail : (slot : ℕ → ℕ → ℕ) (code : List Instr) (functions : List QuadFunction) (f start sites number : ℕ) (g : QuadFunction) → slice_get functions f ≡ Some g → Tail code start sites (codes_from slot start number functions) →
    FunctionTail slot code (start + sizes_of (take f functions)) (sites + sites_of (take f functions)) (number + f) g.quads
function_tail slot code [] f start sites number g here t = cc
function_tail slot code (h ∷ functions) zero start sites number g here t =
    let rest = codes_from slot (start + size_of h.quads) (number + 1) functions in
    let same : h ≡ g = some_is h g here in
    let there : FunctionTail slot code start sites number h.quads = record { rest = rest; tail = t } in
    let a : start ≡ start + 0 = omega arith in
    let b : sites ≡ sites + 0 = omega arith in
    let c : number ≡ number + 0 = omega arith in
    subst (λ n. FunctionTail slot code (start + 0) (sites + 0) n g.quads) c
    (subst (λ n. FunctionTail slot code (start + 0) n number g.quads) b
    (subst (λ n. FunctionTail slot code n sites number g.quads) a
    (subst (λ (h : QuadFunction). FunctionTail slot code start sites number h.quads) same there)))
function_tail slot code (h ∷ functions) (suc f) start sites number g here t =
    let rest = codes_from slot (start + size_of h.quads) (number + 1) functions in
    let begins = begins_in start h.quads in
    let most : length h.quads ≤ length h.quads = omega arith in
    let whole : take (length h.quads) h.quads ≡ h.quads = take_all (length h.quads) h.quads most in
    let past : drop (length h.quads) h.quads ≡ [] = drop_all (length h.quads) h.quads most in
    let own = own_at all_own h.quads (length h.quads) in
    let behind = tail_at (slot number) begins code h.quads (length h.quads) start sites all_own rest most t in
    let there : Tail code (start + size_of h.quads) (sites + spawns_in h.quads) rest =
    tail_as code (start + size_of (take (length h.quads) h.quads)) (start + size_of h.quads) (sites + spawns_in (take (length h.quads) h.quads)) (sites + spawns_in h.quads) rest
    (ap (λ q. start + size_of q) whole) (ap (λ q. sites + spawns_in q) whole)
    (tail_is code (start + size_of (take (length h.quads) h.quads)) (sites + spawns_in (take (length h.quads) h.quads)) (code_from (slot number) begins own (drop (length h.quads) h.quads) ++ rest) rest (ap (λ q. code_from (slot number) begins own q ++ rest) past) behind) in
    let further = function_tail slot code functions f (start + size_of h.quads) (sites + spawns_in h.quads) (number + 1) g here there in
    let sizes = sum_by-cons (λ (f : QuadFunction). size_of f.quads) h (take f functions) in
    let counts = sum_by-cons (λ (f : QuadFunction). spawns_in f.quads) h (take f functions) in
    let a : start + size_of h.quads + sizes_of (take f functions) ≡ start + sizes_of (h ∷ take f functions) = omega (arith, sizes) in
    let b : sites + spawns_in h.quads + sites_of (take f functions) ≡ sites + sites_of (h ∷ take f functions) = omega (arith, counts) in
    let c : number + 1 + f ≡ number + suc f = omega arith in
    subst (λ n. FunctionTail slot code (start + sizes_of (h ∷ take f functions)) (sites + sites_of (h ∷ take f functions)) n g.quads) c
    (subst (λ n. FunctionTail slot code (start + sizes_of (h ∷ take f functions)) n (number + 1 + f) g.quads) b
    (subst (λ n. FunctionTail slot code n (sites + spawns_in h.quads + sites_of (take f functions)) (number + 1 + f) g.quads) a further))

-- ---- entries and lines

pub entry_is : (functions : List QuadFunction) (f start : ℕ) (g : QuadFunction) → slice_get functions f ≡ Some g →
    slice_get (entries_from start functions) f ≡ Some (record { start = start + sizes_of (take f functions); slots = 512; inner = if g.inner then 1 else 0 })
entry_is [] f start g here = cc
entry_is (h ∷ functions) zero start g here =
    let a : start ≡ start + 0 = omega arith in
    ap (λ (h : QuadFunction). Some (record { start = start; slots = 512; inner = if h.inner then 1 else 0 })) (some_is h g here) ∙
    ap (λ n. Some (record { start = n; slots = 512; inner = if g.inner then 1 else 0 })) a
entry_is (h ∷ functions) (suc f) start g here =
    let sizes = sum_by-cons (λ (f : QuadFunction). size_of f.quads) h (take f functions) in
    let a : start + size_of h.quads + sizes_of (take f functions) ≡ start + sizes_of (h ∷ take f functions) = omega (arith, sizes) in
    entry_is functions f (start + size_of h.quads) g here ∙ ap (λ n. Some (record { start = n; slots = 512; inner = if g.inner then 1 else 0 })) a

pub length_lines : (quads : List Quad) (lines : List ℕ) → length lines ≡ length quads → length (lines_from quads lines) ≡ size_of quads
length_lines [] lines same = refl
length_lines (q ∷ quads) [] same = absurd (omega (arith, same))
length_lines (q ∷ quads) (line ∷ lines) same =
    let rest = length_lines quads lines (omega (arith, same)) in
    omega (arith, length-append (replicate (size q) line) (lines_from quads lines), length-replicate {A = ℕ} (size q) line, rest, sum_by-cons size q quads)

pub line_in : (quads : List Quad) (lines : List ℕ) (at k : ℕ) (q : Quad) → length lines ≡ length quads → slice_get quads at ≡ Some q → k < size q → get_or (lines_from quads lines) (size_of (take at quads) + k) 0 ≡ get_or lines at 0
line_in [] lines at k q same here below = cc
line_in (p ∷ quads) [] at k q same here below = absurd (omega (arith, same))
line_in (p ∷ quads) (line ∷ lines) zero k q same here below =
    let sizes : size p ≡ size q = ap size (some_is p q here) in
    let long = length-replicate {A = ℕ} (size p) line in
    let e : 0 + k ≡ k = omega arith in
    ap (λ n. get_or (replicate (size p) line ++ lines_from quads lines) n 0) e ∙
    get_or_append_left (replicate (size p) line) (lines_from quads lines) 0 k (omega (arith, below, sizes, long)) ∙
    get_or-replicate (size p) k line 0 (omega (arith, below, sizes))
line_in (p ∷ quads) (line ∷ lines) (suc at) k q same here below =
    let long = length-replicate {A = ℕ} (size p) line in
    let sizes = sum_by-cons size p (take at quads) in
    let e : size_of (p ∷ take at quads) + k ≡ length (replicate (size p) line) + (size_of (take at quads) + k) = omega (arith, sizes, long) in
    ap (λ n. get_or (replicate (size p) line ++ lines_from quads lines) n 0) e ∙
    get_or-append-add (replicate (size p) line) (lines_from quads lines) (size_of (take at quads) + k) 0 ∙
    line_in quads lines at k q (omega (arith, same)) here below

pub line_of_function : (functions : List QuadFunction) (f k : ℕ) (g : QuadFunction) → ((f : ℕ) (g : QuadFunction) → slice_get functions f ≡ Some g → length g.lines ≡ length g.quads) → slice_get functions f ≡ Some g → k < size_of g.quads →
    get_or (lines_of_all functions) (sizes_of (take f functions) + k) 0 ≡ get_or (lines_from g.quads g.lines) k 0
line_of_function [] f k g same here below = cc
line_of_function (h ∷ functions) zero k g same here below =
    let is : h ≡ g = some_is h g here in
    let sizes : size_of h.quads ≡ size_of g.quads = ap (λ (f : QuadFunction). size_of f.quads) is in
    let long = length_lines h.quads h.lines (same 0 h refl) in
    let e : 0 + k ≡ k = omega arith in
    ap (λ n. get_or (lines_from h.quads h.lines ++ lines_of_all functions) n 0) e ∙
    get_or_append_left (lines_from h.quads h.lines) (lines_of_all functions) 0 k (omega (arith, below, sizes, long)) ∙
    ap (λ (f : QuadFunction). get_or (lines_from f.quads f.lines) k 0) is
line_of_function (h ∷ functions) (suc f) k g same here below =
    let long = length_lines h.quads h.lines (same 0 h refl) in
    let sizes = sum_by-cons (λ (f : QuadFunction). size_of f.quads) h (take f functions) in
    let e : sizes_of (h ∷ take f functions) + k ≡ length (lines_from h.quads h.lines) + (sizes_of (take f functions) + k) = omega (arith, sizes, long) in
    ap (λ n. get_or (lines_from h.quads h.lines ++ lines_of_all functions) n 0) e ∙
    get_or-append-add (lines_from h.quads h.lines) (lines_of_all functions) (sizes_of (take f functions) + k) 0 ∙
    line_of_function functions f k g (λ f g is. same (suc f) g is) here below
