use Rattle.std.proofs.Common.{◌≡◌, ◌∙◌, ap, map, slice_index_or}
use Rattle.xmt_base.specs.declared.values.Symbol.{Symbol}
use Rattle.image_loader.proofs.Names.{names_more, names_failed}
use Rattle.image_loader.proofs.symbols.names_differ.Goals as goal

pub returns-then-not-new : goal.returns-then-not-new
returns-then-not-new c =
    let name : c.in_ok-name.name.items ≡ (slice_index_or c.args.symbols.now c.loop-symbol.symbol-index c.symbol-item.result).name = c.in_ok-name.ensures.items ∙ c.as_slice.ensures ∙ ap (λ (s : Symbol). s.name) c.symbol-item.is in
    (λ e. absurd cc, λ h. absurd (names_failed c.args.symbols.now c.loop-symbol.symbol-index c.symbol-item.result (map (λ key. key.items) c.loop-symbol.names.keys) c.in_ok-name.name.items c.in_ok-new.new c.loop-symbol-test.true name c.loop-symbol.invariant.keys c.in_ok-new.ensures.new c.if-not-new.true h))

pub loop-symbol-preserved : goal.loop-symbol-preserved
loop-symbol-preserved c =
    let name : c.in_ok-name.name.items ≡ (slice_index_or c.args.symbols.now c.loop-symbol.symbol-index c.symbol-item.result).name = c.in_ok-name.ensures.items ∙ c.as_slice.ensures ∙ ap (λ (s : Symbol). s.name) c.symbol-item.is in
    let more = names_more c.args.symbols.now c.loop-symbol.symbol-index c.symbol-item.result (map (λ key. key.items) c.loop-symbol.names.keys) (map (λ key. key.items) c.add_name.new.names.keys) c.in_ok-name.name.items c.in_ok-new.new c.loop-symbol-test.true name c.loop-symbol.invariant.keys c.in_ok-new.ensures.new c.in_ok-new.ensures.keys c.if-not-new.false c.loop-symbol.invariant.differ in
    record { keys = more.0; differ = more.1 }
