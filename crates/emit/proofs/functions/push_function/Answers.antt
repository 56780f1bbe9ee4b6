use Rattle.std.proofs.Common.{◌≡◌, ℕ, sym, ◌∙◌, ap, subst, arith, ◌+◌, ◌-◌, ◌++◌, ◌<◌, List, length, get_or, take, drop, replicate}
use Rattle.std.specs.Prelude.{slice_index}
use Rattle.std.proofs.lemmas.List.{get_or_default, take_rest}
use Rattle.xmt_quads.specs.declared.code.Operand.TheVariants.{Reg}
use Rattle.xmt_quads.specs.declared.code.Quad.{Quad}
use Rattle.xmt_quads.specs.declared.code.Quad.TheVariants.{Copy}
use Rattle.quad_images.specs.Instructions.{quad_code}
use Rattle.quad_images.specs.Image.{own_behind}
use Rattle.emit.specs.Emitted.{TargetExists, slot_at, own_of, places_from}
use Rattle.emit.proofs.Tables.{length_places, code_step, lines_step}
use Rattle.emit.proofs.functions.push_function.Goals as goal

abbrev first : Quad
first = Copy 0 (Reg 0)

pub push_quad-requires : goal.push_quad-requires
push_quad-requires c =
    let quads = c.args.f.now.quads in
    let shown : c.as_slice-quads.result.now ≡ quads = c.as_slice-quads.ensures in
    let table : c.as_slice.result.now ≡ c.in_ok-places.places.items = c.as_slice.ensures.value in
    let places : c.in_ok-places.places.items ≡ places_from c.args.start c.as_slice-quads.result.now = c.in_ok-places.ensures in
    let long : length c.as_slice.result.now ≡ length quads = ap (λ (xs : List ℕ). length xs) (table ∙ places) ∙ length_places c.args.start c.as_slice-quads.result.now ∙ ap (λ (xs : List Quad). length xs) shown in
    let below : c.loop-i.i < length quads = omega (arith, c.loop-i-test.true, ap (λ (xs : List Quad). length xs) shown) in
    subst (λ n. TargetExists n (get_or c.as_slice-quads.result.now c.loop-i.i first)) (sym long)
    (subst (λ (xs : List Quad). TargetExists (length quads) (get_or xs c.loop-i.i first)) (sym shown) (c.requires.emittable.targets c.loop-i.i first below))

pub loop-i-preserved : goal.loop-i-preserved
loop-i-preserved c =
    let quads = c.args.f.now.quads in
    let lines = c.args.f.now.lines in
    let i = c.loop-i.i in
    let start = c.args.start in
    let slot = slot_at c.args.homes.now in
    let own = own_of c.loop-i.own in
    let own' = own_of c.go_on.new.own in
    let now = c.loop-i.code in
    let next = c.push_quad.new.code in
    let shown : c.as_slice-quads.result.now ≡ quads = c.as_slice-quads.ensures in
    let shown_lines : c.as_slice-lines.result.now ≡ lines = c.as_slice-lines.ensures in
    let table : c.as_slice.result.now ≡ places_from start quads = c.as_slice.ensures.value ∙ c.in_ok-places.ensures ∙ ap (places_from start) shown in
    let below : i < length quads = omega (arith, c.loop-i-test.true, ap (λ (xs : List Quad). length xs) shown) in
    let low : i < length lines = (let same = c.requires.emittable.lines in omega (arith, below, same)) in
    let q = get_or quads i first in
    let seen : get_or c.as_slice-quads.result.now i first ≡ q = ap (λ (xs : List Quad). get_or xs i first) shown in
    let here : q ≡ get_or quads i q = get_or_default quads i first q below in
    let line = get_or lines i 0 in
    let there : line ≡ get_or lines i line = get_or_default lines i 0 line low in
    let seen_line : get_or c.as_slice-lines.result.now i 0 ≡ line = ap (λ (xs : List ℕ). get_or xs i 0) shown_lines in
    let target = c.requires.emittable.targets i first below in
    let pushed : next.code ≡ now.code ++ quad_code slot (slice_index c.as_slice.result.now) own (get_or c.as_slice-quads.result.now i first) = c.in_ok-push_quad.ensures.instructions in
    let pushed_lines : next.lines ≡ now.lines ++ replicate (length (quad_code slot (slice_index c.as_slice.result.now) own (get_or c.as_slice-quads.result.now i first))) (get_or c.as_slice-lines.result.now i 0) = c.in_ok-push_quad.ensures.are_lines in
    let behind : (r : ℕ) → own' r ≡ own_behind own (get_or c.as_slice-quads.result.now i first) (take (length c.as_slice-quads.result.now - (i + 1)) (drop (i + 1) c.as_slice-quads.result.now)) r = c.in_ok-go_on.ensures in
    record {
      instructions =
          code_step slot start quads i q own own' now.code next.code _ below here target c.loop-i.invariant.instructions
          (pushed ∙ ap (λ q. now.code ++ quad_code slot (slice_index c.as_slice.result.now) own q) seen ∙ ap (λ (table : List ℕ). now.code ++ quad_code slot (slice_index table) own q) table)
          (λ r. behind r ∙ ap (λ (xs : List Quad). own_behind own (get_or c.as_slice-quads.result.now i first) xs r) (take_rest c.as_slice-quads.result.now (i + 1)) ∙ ap (λ q. own_behind own q (drop (i + 1) c.as_slice-quads.result.now) r) seen ∙ ap (λ (xs : List Quad). own_behind own q (drop (i + 1) xs) r) shown);
      are_lines =
          lines_step slot (slice_index c.as_slice.result.now) own quads lines i q line now.lines next.lines _ below here low there c.loop-i.invariant.are_lines
          (pushed_lines ∙ ap (λ q. now.lines ++ replicate (length (quad_code slot (slice_index c.as_slice.result.now) own q)) (get_or c.as_slice-lines.result.now i 0)) seen ∙
          ap (λ line. now.lines ++ replicate (length (quad_code slot (slice_index c.as_slice.result.now) own q)) line) seen_line);
    }
