use Rattle.std.proofs.Common.{ℕ, List, subst, refl}
use Rattle.source_meaning.specs.declared.tree.Stmt.{Stmt}
use Rattle.lowering.specs.declared.code.Placed.{Placed}
use Rattle.lowering.specs.declared.loops.Exits.{Exits}
use Rattle.lowering.specs.Stated.{EmitsSequence}
use Rattle.lowering.proofs.Wholes.{function_emitted}
use Rattle.lowering.proofs.functions.emit_function.Goals as goal

pub returns : goal.returns
returns c =
    let globals = c.args.tables.now.globals.now in
    let exits : Exits = record { leave = 0; again = 0 } in
    let c1 : List Placed = c.emit_parameters.new.code.items in
    let c2 : List Placed = c.emit_statements.new.code.items in
    let t0 : List (List ℕ) = c.args.texts.now.list in
    let t1 : List (List ℕ) = c.emit_statements.new.texts.list in
    function_emitted globals c.args.function.now c.args.tables.now.body.now exits c.args.code.now.items c1 c2 c.put.new.code.items t0 t1 c.requires refl c.in_ok-emit_parameters.ensures
    (subst (λ (list : List Stmt). EmitsSequence globals c.args.tables.now.body.now c.args.function.now.variables exits list c1 c2 t0 t1) c.as_slice.ensures c.in_ok-emit_statements.ensures) c.in_ok-put.ensures
