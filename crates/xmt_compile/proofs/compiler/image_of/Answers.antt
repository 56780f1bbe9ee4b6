use Rattle.std.proofs.lemmas.List.Elements.{All-weaker, All-nil}
use Rattle.std.proofs.Common.{ℕ, ◌≤◌, ◌≡◌, sym, subst}
use Rattle.xmt_quads.specs.declared.code.QuadFunction.{QuadFunction}
use Rattle.xmt_quads.specs.WellFormed.{IsWellFormedFunction}
use Rattle.tree_measures.specs.Nodes.{program_nodes}
use Rattle.broadcast.proofs.Held.{all_zero}
use Rattle.broadcast.specs.Masks.{AreMasks}
use Rattle.xmt_compile.proofs.Compiled.{implements, few_instructions}
use Rattle.xmt_compile.proofs.compiler.image_of.Goals as goal

pub plain-requires : goal.plain-requires
plain-requires c =
    let quads = c.in_ok-quads.quads in
    All-weaker (IsWellFormedFunction quads) (λ (f : QuadFunction). f.registers ≤ 456) (λ f well. well.few_registers) quads.functions c.in_ok-quads.ensures.well.functions

pub emit-requires-clause-masks : goal.emit-requires-clause-masks
emit-requires-clause-masks c =
    all_zero c.in_ok-quads.quads c.in_ok-allocation.allocation.homes c.as_slice.result.now
    (subst (AreMasks c.in_ok-quads.quads c.in_ok-allocation.allocation.homes) (sym c.as_slice.ensures.value) c.in_ok-masks.ensures) c.in_ok-allocation.ensures.own_slots

pub returns-clause-implements : goal.returns-clause-implements
returns-clause-implements c =
    let q = c.in_ok-quads.ensures in
    let a = c.in_ok-allocation.ensures in
    let i = c.in_ok-image.ensures in
    implements c.args.program.now c.in_ok-quads.quads c.in_ok-allocation.allocation.homes c.in_ok-image.image c.requires q.lowered i.image q.well q.traces a.allocation a.own_slots i.valid

pub returns-clause-few : goal.returns-clause-few
returns-clause-few c =
    few_instructions c.in_ok-quads.quads c.in_ok-allocation.allocation.homes c.in_ok-image.image (program_nodes c.args.program.now) c.in_ok-image.ensures.image c.in_ok-quads.ensures.light
