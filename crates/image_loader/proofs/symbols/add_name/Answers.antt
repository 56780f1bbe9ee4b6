use Rattle.image_loader.proofs.Names.{new_is, goes_last}
use Rattle.image_loader.proofs.symbols.add_name.Goals as goal

pub returns : goal.returns
returns c = record {
  new = new_is (λ key. key.items) c.args.names.now.keys c.args.name c.in_ok-new.new c.in_ok-new.ensures.added;
  keys = goes_last (λ key. key.items) c.args.names.now.keys c.insert_full.new.self.keys c.args.name c.in_ok-new.new c.in_ok-new.ensures.keys c.in_ok-new.ensures.added;
}
