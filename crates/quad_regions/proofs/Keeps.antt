-- Code keeps the block that stands around it: behind it the same block stands around as before it, and each quad fits the block around its own position.
use Rattle.std.proofs.Common.{◌≡◌, refl, sym, ◌∙◌, ap, subst, arith, ℕ, ◌+◌, Bool, List, [], ◌∷◌, ◌++◌, length, length-append, Option, Some, None}
use Rattle.std.specs.Prelude.{if◌then◌else◌}
use Rattle.xmt_quads.specs.declared.code.Operand.{Operand}
use Rattle.xmt_quads.specs.declared.code.Quad.{Quad}
use Rattle.xmt_quads.specs.declared.code.Quad.TheVariants as quad
use Rattle.quad_code.specs.Lined.{Lined, lined, one, Spawns, choice, loop_code, do_code, spawn_code}
use Rattle.quad_code.specs.Known.{Region, Serial, Inner, InBlock, MayReturn}

-- ---- blocks around positions

-- where a quad runs, in a function that blocks may call or in another, by the position of the spawn whose block stands around it, if one does
abbrev pub region_of : (inner : Bool) → (block : Option ℕ) → Region
region_of inner None = if inner then Inner else Serial
region_of inner (Some spawn) = InBlock

-- a function, what it may call in blocks, and the block around each of its positions
pub record Setting : Type 1 where
  pub inner : Bool
  pub Callable : (function : ℕ) → Type 0
  pub around : (at : ℕ) → Option ℕ

-- the block behind a quad
abbrev pub changed : (at : ℕ) → (block : Option ℕ) → Quad → Option ℕ
changed at s (quad.Spawn low high) = Some at
changed at s quad.Join = None
changed at s q = s

-- a quad that leaves the block as it is
abbrev pub IsStill : Quad → Type 0
IsStill (quad.Spawn low high) = ⊥
IsStill quad.Join = ⊥
IsStill q = Unit {0}

pub still : (at : ℕ) (s : Option ℕ) (q : Quad) → IsStill q → changed at s q ≡ s
still at s (quad.Spawn low high) h = absurd h
still at s quad.Join h = absurd h
still at s q h = refl

abbrev pub MayBeCalled : (Callable : (function : ℕ) → Type 0) → Region → (function : ℕ) → Type 0
MayBeCalled Callable Serial f = Unit {0}
MayBeCalled Callable region f = Callable f

-- the quad may stand in this block, and jumps to where the same block stands around
abbrev pub Fits : Setting → (block : Option ℕ) → Quad → Type 0
Fits w s (quad.Jump to) = w.around to ≡ s
Fits w s (quad.IfZero o to) = w.around to ≡ s
Fits w s (quad.IfNot o to) = w.around to ≡ s
Fits w s (quad.Call f) = MayBeCalled w.Callable (region_of w.inner s) f
Fits w s (quad.Return o) = MayReturn (region_of w.inner s)
Fits w s (quad.Print text) = region_of w.inner s ≡ Serial
Fits w s (quad.Spawn low high) = region_of w.inner s ≡ Serial
Fits w s quad.Join = (spawn : ℕ) × (s ≡ Some spawn)
Fits w s q = Unit {0}

-- no block stands around serial code
pub serial_alone : (inner : Bool) (s : Option ℕ) → region_of inner s ≡ Serial → s ≡ None
serial_alone inner None e = refl
serial_alone inner (Some spawn) e = cc

-- ---- code

-- the blocks around follow this code
abbrev pub Follows : (around : (at : ℕ) → Option ℕ) → (at : ℕ) → List Lined → Type 0
Follows around at [] = Unit {0}
Follows around at (l ∷ code) = (around (at + 1) ≡ changed at (around at) l.quad) × Follows around (at + 1) code

abbrev pub AllFit : Setting → (at : ℕ) → List Lined → Type 0
AllFit w at [] = Unit {0}
AllFit w at (l ∷ code) = Fits w (w.around at) l.quad × AllFit w (at + 1) code

parts : (around : (at : ℕ) → Option ℕ) (at : ℕ) (first second : List Lined) → Follows around at (first ++ second) → Follows around at first × Follows around (at + length first) second
parts around at [] second f = let e : at ≡ at + 0 = omega arith in (tt, subst (λ n. Follows around n second) e f)
parts around at (l ∷ first) second f =
    let p = parts around (at + 1) first second f.1 in
    let e : at + 1 + length first ≡ at + length (l ∷ first) = omega arith in
    ((f.0, p.0), subst (λ n. Follows around n second) e p.1)

joined : (w : Setting) (at : ℕ) (first second : List Lined) → AllFit w at first → AllFit w (at + length first) second → AllFit w at (first ++ second)
joined w at [] second a b = let e : at + 0 ≡ at = omega arith in subst (λ n. AllFit w n second) e b
joined w at (l ∷ first) second a b =
    let e : at + length (l ∷ first) ≡ at + 1 + length first = omega arith in
    (a.0, joined w (at + 1) first second a.1 (subst (λ n. AllFit w n second) e b))

pub record Keeps (w : Setting) (s : Option ℕ) (at : ℕ) (code : List Lined) : Type 0 where
  pub keeps : w.around at ≡ s → Follows w.around at code → AllFit w at code × (w.around (at + length code) ≡ s)

pub nothing : {w : Setting} {s : Option ℕ} {at : ℕ} → Keeps w s at []
nothing {w} {s} {at} = record { keeps = λ begins follows. let e : at + 0 ≡ at = omega arith in (tt, ap w.around e ∙ begins) }

pub behind : {w : Setting} {s : Option ℕ} {at : ℕ} {first second : List Lined} → Keeps w s at first → Keeps w s (at + length first) second → Keeps w s at (first ++ second)
behind {w} {s} {at} {first} {second} a b =
    record {
      keeps = λ begins follows.
          let p = parts w.around at first second follows in
          let x = a.keeps begins p.0 in
          let y = b.keeps x.1 p.1 in
          let e : at + length (first ++ second) ≡ at + length first + length second = omega (arith, length-append {A = Lined}) in
          (joined w at first second x.0 y.0, ap w.around e ∙ y.1);
    }

pub next : {w : Setting} {s : Option ℕ} {at : ℕ} {code : List Lined} (l : Lined) → IsStill l.quad → Fits w s l.quad → Keeps w s (at + 1) code → Keeps w s at (l ∷ code)
next {w} {s} {at} {code} l stands fits rest =
    record {
      keeps = λ begins follows.
          let x = rest.keeps (follows.0 ∙ still at (w.around at) l.quad stands ∙ begins) follows.1 in
          let e : at + length (l ∷ code) ≡ at + 1 + length code = omega arith in
          ((subst (λ t. Fits w t l.quad) (sym begins) fits, x.0), ap w.around e ∙ x.1);
    }

pub last : {w : Setting} {s : Option ℕ} {at : ℕ} (l : Lined) → IsStill l.quad → Fits w s l.quad → Keeps w s at (l ∷ [])
last l stands fits = next l stands fits nothing

-- ---- choices, loops and blocks

pub choice_keeps : {w : Setting} {s : Option ℕ} {at : ℕ} {first second : ℕ → List Lined} (line : ℕ) (skip : (to : ℕ) → Quad) → ((to : ℕ) → IsStill (skip to)) → ((to : ℕ) → w.around to ≡ s → Fits w s (skip to)) →
    ((at : ℕ) → Keeps w s at (first at)) → ((at : ℕ) → Keeps w s at (second at)) → Keeps w s at (choice line at skip first second)
choice_keeps {w} {s} {at} {first} {second} line skip stands fits keeps_first keeps_second =
    record {
      keeps = λ begins follows.
          let a = first (at + 1) in
          let middle = at + 1 + length a + 1 in
          let b = second middle in
          let jump = lined line (quad.Jump (middle + length b)) in
          let at_first : w.around (at + 1) ≡ s = follows.0 ∙ still at (w.around at) (skip middle) (stands middle) ∙ begins in
          let p = parts w.around (at + 1) a (jump ∷ b) follows.1 in
          let x = (keeps_first (at + 1)).keeps at_first p.0 in
          let at_middle : w.around middle ≡ s = p.1.0 ∙ x.1 in
          let y = (keeps_second middle).keeps at_middle p.1.1 in
          let e : at + length (lined line (skip middle) ∷ (a ++ jump ∷ b)) ≡ middle + length b = omega (arith, length-append {A = Lined}) in
          ((subst (λ t. Fits w t (skip middle)) (sym begins) (fits middle at_middle), joined w (at + 1) a (jump ∷ b) x.0 (y.1 ∙ sym x.1, y.0)), ap w.around e ∙ y.1);
    }

pub loop_keeps : {w : Setting} {s : Option ℕ} {at : ℕ} {test third : ℕ → List Lined} {body : (at leave again : ℕ) → List Lined} (line : ℕ) (o : Operand) → ((at : ℕ) → Keeps w s at (test at)) →
    ((at leave again : ℕ) → w.around leave ≡ s → w.around again ≡ s → Keeps w s at (body at leave again)) → ((at : ℕ) → Keeps w s at (third at)) → Keeps w s at (loop_code line at test o body third)
loop_keeps {w} {s} {at} {test} {third} {body} line o keeps_test keeps_body keeps_third =
    record {
      keeps = λ begins follows.
          let t = test at in
          let leave = at + length t + 1 in
          let start = leave + 1 + 1 in
          let b = body start leave (leave + 1) in
          let beyond = start + length b in
          let c = third beyond in
          let back = one line (quad.Jump at) in
          let first = lined line (quad.IfNot o start) in
          let second = lined line (quad.Jump (beyond + length c + 1)) in
          let third = lined line (quad.Jump beyond) in
          let p = parts w.around at t (first ∷ second ∷ third ∷ (b ++ (c ++ back))) follows in
          let x = (keeps_test at).keeps begins p.0 in
          let at_leave : w.around leave ≡ s = p.1.0 ∙ x.1 in
          let at_again : w.around (leave + 1) ≡ s = p.1.1.0 ∙ at_leave in
          let at_start : w.around start ≡ s = p.1.1.1.0 ∙ at_again in
          let q = parts w.around start b (c ++ back) p.1.1.1.1 in
          let y = (keeps_body start leave (leave + 1) at_leave at_again).keeps at_start q.0 in
          let r = parts w.around beyond c back q.1 in
          let z = (keeps_third beyond).keeps y.1 r.0 in
          let at_end : w.around (beyond + length c + 1) ≡ s = r.1.0 ∙ z.1 in
          let e : at + length (t ++ first ∷ second ∷ third ∷ (b ++ (c ++ back))) ≡ beyond + length c + 1 = omega (arith, length-append {A = Lined}) in (
            joined w at t (first ∷ second ∷ third ∷ (b ++ (c ++ back))) x.0 (
              at_start ∙ sym x.1,
              (at_end ∙ sym at_leave, (y.1 ∙ sym at_again, joined w start b (c ++ back) y.0 (joined w beyond c back z.0 (begins ∙ sym z.1, tt)))),
            ),
            ap w.around e ∙ at_end,
          );
    }

pub do_keeps : {w : Setting} {s : Option ℕ} {at : ℕ} {test : ℕ → List Lined} {body : (at leave again : ℕ) → List Lined} (line : ℕ) (o : Operand) → ((at : ℕ) → Keeps w s at (test at)) →
    ((at leave again : ℕ) → w.around leave ≡ s → w.around again ≡ s → Keeps w s at (body at leave again)) → Keeps w s at (do_code line at test o body)
do_keeps {w} {s} {at} {test} {body} line o keeps_test keeps_body =
    record {
      keeps = λ begins follows.
          let start = at + 1 + 1 + 1 in
          let b = body start (at + 1) (at + 1 + 1) in
          let beyond = start + length b in
          let t = test beyond in
          let back = one line (quad.IfNot o start) in
          let at_leave : w.around (at + 1) ≡ s = follows.0 ∙ begins in
          let at_again : w.around (at + 1 + 1) ≡ s = follows.1.0 ∙ at_leave in
          let at_start : w.around start ≡ s = follows.1.1.0 ∙ at_again in
          let q = parts w.around start b (t ++ back) follows.1.1.1 in
          let y = (keeps_body start (at + 1) (at + 1 + 1) at_leave at_again).keeps at_start q.0 in
          let r = parts w.around beyond t back q.1 in
          let z = (keeps_test beyond).keeps y.1 r.0 in
          let at_end : w.around (beyond + length t + 1) ≡ s = r.1.0 ∙ z.1 in
          let first = lined line (quad.Jump start) in
          let second = lined line (quad.Jump (beyond + length t + 1)) in
          let third = lined line (quad.Jump beyond) in
          let e : at + length (first ∷ second ∷ third ∷ (b ++ (t ++ back))) ≡ beyond + length t + 1 = omega (arith, length-append {A = Lined}) in (
            (at_start ∙ sym begins, (at_end ∙ sym at_leave, (y.1 ∙ sym at_again, joined w start b (t ++ back) y.0 (joined w beyond t back z.0 (at_start ∙ sym z.1, tt))))),
            ap w.around e ∙ at_end,
          );
    }

pub spawn_keeps : {w : Setting} {s : Option ℕ} {at : ℕ} (line site : ℕ) (low high : Operand) (block : ℕ → List Lined) → region_of w.inner s ≡ Serial → Keeps w (Some at) (at + 1) (block (at + 1)) → Keeps w s at (spawn_code line at site low high block)
spawn_keeps {w} {s} {at} line site low high block serial keeps_block =
    record {
      keeps = λ begins follows.
          let b = block (at + 1) in
          let join = one line quad.Join in
          let p = parts w.around (at + 1) b join follows.1 in
          let x = keeps_block.keeps follows.0 p.0 in
          let spawn : Lined = record { quad = quad.Spawn low high; line = line; note = Spawns site (at + 1 + length b + 1) } in
          let e : at + length (spawn ∷ (b ++ join)) ≡ at + 1 + length b + 1 = omega (arith, length-append {A = Lined}) in
          ((ap (region_of w.inner) begins ∙ serial, joined w (at + 1) b join x.0 ((at, x.1), tt)), ap w.around e ∙ p.1.0 ∙ sym (serial_alone w.inner s serial));
    }
