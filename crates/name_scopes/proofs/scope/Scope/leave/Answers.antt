use Rattle.std.proofs.Common.{◌≡◌, ◌<◌, ◌∙◌, ◌∷◌, ◌++◌, [], arith, length}
use Rattle.std.specs.Prelude.{Vec}
use Rattle.std.specs.declared.alloc.Global.{Global}
use Rattle.std.specs.Str.{bytes_eq}
use Rattle.indexmap.specs.IndexMap.{insert_entry}
use Rattle.name_scopes.proofs.Table.{left_table, take_popped}
use Rattle.name_scopes.proofs.scope.Scope.leave.Goals as goal

pub loop-alloc-preserved : goal.loop-alloc-preserved
loop-alloc-preserved c =
    let popped : c.loop-alloc.self.declared ≡ c.pop.new.self ++ c.in-Some.last ∷ [] = c.in-Some.ensures in
    let entries : c.insert.new.self.entries ≡ insert_entry (λ (a : Vec _ Global) (b : Vec _ Global). bytes_eq a.items b.items) c.loop-alloc.self.by_name.entries c.in_ok-from_slice.field-0 c.in-Some.last.hidden = c.in_ok-insert.ensures.entries in
    let within : c.args.count < length c.loop-alloc.self.declared = omega (arith, c.len.ensures, c.loop-alloc-test.true) in
    record {
      table =
          left_table c.loop-alloc.self (record { by_name = c.insert.new.self; declared = c.pop.new.self }) c.in-Some.last c.in_ok-from_slice.field-0
          popped (c.in_ok-from_slice.ensures.items ∙ c.as_slice.ensures) entries c.loop-alloc.invariant.table;
      front = take_popped c.args.count c.loop-alloc.self.declared c.pop.new.self c.in-Some.last popped within ∙ c.loop-alloc.invariant.front;
    }
