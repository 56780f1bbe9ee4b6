use Rattle.image_loader.proofs.registers.has_registers.Goals as goal

pub returns : goal.returns
returns c =
    let same = c.have_registers.ensures in
    let each = rw c.as_slice.ensures at same in
    (λ e. record { each = each.0 e }, λ h. each.1 h.each)
