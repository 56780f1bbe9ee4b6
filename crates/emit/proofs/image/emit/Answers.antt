use Rattle.std.proofs.Common.{◌≡◌, sym, subst, arith, rules, ◌≤◌, List}
use Rattle.std.specs.Prelude.{sum_by}
use Rattle.xmt_isa.specs.declared.image.Image.{Image}
use Rattle.xmt_quads.specs.declared.code.QuadFunction.{QuadFunction}
use Rattle.quad_images.specs.Image.{size_of, IsImageOf}
use Rattle.quad_image_limits.proofs.Valid.{sizes_weigh, is_valid}
use Rattle.emit.proofs.image.emit.Goals as goal

pub build-requires-clause-light : goal.build-requires-clause-light
build-requires-clause-light c =
    let functions = c.args.program.now.functions in
    let shown : c.as_slice.result.now ≡ functions = c.as_slice.ensures in
    let weighs = sizes_weigh functions in
    let light = c.requires.well.light in
    let few : sum_by (λ (f : QuadFunction). size_of f.quads) functions ≤ 4194304 = omega (arith, weighs, light) in
    subst (λ (fs : List QuadFunction). sum_by (λ (f : QuadFunction). size_of f.quads) fs ≤ 4194304) (sym shown) few

pub returns-clause-valid : goal.returns-clause-valid
returns-clause-valid c =
    let made : Image = record {
      code = c.in_ok-code.field-0.code.code;
      lines = c.in_ok-code.field-0.code.lines;
      functions = c.in_ok-code.field-0.entries;
      texts = c.in_ok-copy_texts.field-0;
      symbols = c.in_ok-copy_symbols.field-0;
      words = c.in_ok-from_slice.field-0;
      ps = c.args.program.now.ps;
      outer = c.args.program.now.outer;
      entry = c.args.program.now.main;
    } in
    let image : IsImageOf c.args.program.now c.args.allocation.now.homes made = search rules in
    is_valid c.args.program.now c.args.allocation.now.homes made c.requires.well c.requires.homes c.requires.slots image
