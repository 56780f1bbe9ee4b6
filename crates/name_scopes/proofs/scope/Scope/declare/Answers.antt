use Rattle.std.proofs.Common.{◌≡◌, rules, Some, length}
use Rattle.std.specs.Prelude.{Vec}
use Rattle.std.specs.declared.alloc.Global.{Global}
use Rattle.std.specs.Str.{bytes_eq}
use Rattle.indexmap.specs.IndexMap.{insert_entry}
use Rattle.name_scopes.proofs.Table.{declared_table}
use Rattle.name_scopes.specs.Scope.{declare}
use Rattle.name_scopes.proofs.scope.Scope.declare.Goals as goal

pub returns-clause-table : goal.returns-clause-table
returns-clause-table c =
    let declared : c.push.new.self ≡ declare c.args.name.now c.args.meaning c.args.self.now.declared = search rules in
    let entries : c.insert.new.self.entries ≡ insert_entry (λ (a : Vec _ Global) (b : Vec _ Global). bytes_eq a.items b.items) c.args.self.now.by_name.entries c.in_ok-from_slice-2.field-0 (Some (record { place = length c.args.self.now.declared; meaning = c.args.meaning })) = search rules in
    declared_table c.args.self.now (record { by_name = c.insert.new.self; declared = c.push.new.self }) c.in_ok-from_slice-2.field-0 c.args.name.now c.args.meaning
    c.in_ok-from_slice-2.ensures.items declared entries c.requires
