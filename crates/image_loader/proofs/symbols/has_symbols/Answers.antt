use Rattle.std.proofs.Common.{refl}
use Rattle.image_loader.proofs.Names.{fits_of, by_names}
use Rattle.image_loader.proofs.Elements.{not_true}
use Rattle.image_loader.proofs.symbols.has_symbols.Goals as goal

pub returns-then-not-symbols_hold : goal.returns-then-not-symbols_hold
returns-then-not-symbols_hold c =
    let same = c.if-not-symbols_hold.ensures in
    (λ e. absurd cc, λ h. absurd (not_true (rw c.as_slice-symbols.ensures at same) (fits_of c.args.image.now h)))

pub returns : goal.returns
returns c =
    let each = c.if-not-symbols_hold.ensures.0 refl in
    let cover = c.if-not-covers.ensures.0 refl in
    let differ = c.names_differ.ensures in
    by_names c.args.image.now c.names_differ.result (rw c.as_slice-symbols.ensures at each) (rw (c.as_slice-symbols.ensures, c.len.ensures) at cover) (rw c.as_slice-symbols.ensures at differ)
