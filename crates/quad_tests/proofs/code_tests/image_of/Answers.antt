use Rattle.std.proofs.lemmas.List.Elements.{All-weaker}
use Rattle.std.proofs.Common.{◌≤◌}
use Rattle.xmt_quads.specs.declared.code.QuadFunction.{QuadFunction}
use Rattle.xmt_quads.specs.WellFormed.{IsWellFormedFunction}
use Rattle.quad_tests.proofs.code_tests.image_of.Goals as goal

pub plain-requires : goal.plain-requires
plain-requires c =
    let quads = c.args.quads.now in
    All-weaker (IsWellFormedFunction quads) (λ (f : QuadFunction). f.registers ≤ 456) (λ f well. well.few_registers) quads.functions c.requires.functions
