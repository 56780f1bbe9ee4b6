use Rattle.std.proofs.Common.{◌∙◌, ap}
use Rattle.xmt_isa.specs.declared.image.Image.{Image}
use Rattle.tcu_engine.specs.Looks.{is_at}
use Rattle.tcu_engine.proofs.Looks.{spent_when, pause_when, asks_when, trap_when}
use Rattle.tcu_engine.proofs.Waits.{waits_by, fits_waiting, fits_begun, there_when, advanced_by}
use Rattle.tcu_engine.proofs.running.advance.Goals as goal

pub run-ask-requires-clause-fits : goal.run-ask-requires-clause-fits
run-ask-requires-clause-fits c =
    let same = c.image-image.ensures.same in
    rw same (fits_begun c.args.image.now c.args.start.now c.args.unit.now c.begin.new.unit c.image-image.ensures.valid c.requires.fits c.requires.free (rw same at c.begin.ensures))

pub returns-clause-advanced : goal.returns-clause-advanced
returns-clause-advanced c =
    let its = rw c.image-image.ensures.same at c.run-ask.ensures in
    advanced_by c.args.image.now c.args.start.now c.args.budget c.run-ask.new.unit c.run-ask.result c.is_request-unit.result c.args.most c.args.unit.now c.begin.new.unit its.free (rw c.image-image.ensures.same at c.begin.ensures) its.run

pub returns-clause-spent : goal.returns-clause-spent
returns-clause-spent c =
    let its = rw c.image-image.ensures.same at c.run-ask.ensures in
    let ask = c.run-ask.ensures.ask ∙ ap (λ (i : Image). is_at i c.args.start.now c.args.budget c.run-ask.new.unit) c.image-image.ensures.same in
    spent_when c.args.image.now c.args.start.now c.args.budget (waits_by c.run-ask.new.unit c.is_request-unit.result) c.run-ask.result ask its.within

pub returns-clause-pause : goal.returns-clause-pause
returns-clause-pause c =
    let its = rw c.image-image.ensures.same at c.run-ask.ensures in
    let ask = c.run-ask.ensures.ask ∙ ap (λ (i : Image). is_at i c.args.start.now c.args.budget c.run-ask.new.unit) c.image-image.ensures.same in
    pause_when c.args.image.now c.args.start.now c.args.budget (waits_by c.run-ask.new.unit c.is_request-unit.result) c.run-ask.result ask its.within

pub returns-clause-asks : goal.returns-clause-asks
returns-clause-asks c =
    let its = rw c.image-image.ensures.same at c.run-ask.ensures in
    let ask = c.run-ask.ensures.ask ∙ ap (λ (i : Image). is_at i c.args.start.now c.args.budget c.run-ask.new.unit) c.image-image.ensures.same in
    asks_when c.args.image.now c.args.start.now c.args.budget (waits_by c.run-ask.new.unit c.is_request-unit.result) c.run-ask.result ask its.within

pub returns-clause-trap : goal.returns-clause-trap
returns-clause-trap c =
    let its = rw c.image-image.ensures.same at c.run-ask.ensures in
    let ask = c.run-ask.ensures.ask ∙ ap (λ (i : Image). is_at i c.args.start.now c.args.budget c.run-ask.new.unit) c.image-image.ensures.same in
    trap_when c.args.image.now c.args.start.now c.args.budget (waits_by c.run-ask.new.unit c.is_request-unit.result) c.run-ask.result ask its.within

pub returns-clause-there : goal.returns-clause-there
returns-clause-there c =
    let its = rw c.image-image.ensures.same at c.run-ask.ensures in
    let ask = c.run-ask.ensures.ask ∙ ap (λ (i : Image). is_at i c.args.start.now c.args.budget c.run-ask.new.unit) c.image-image.ensures.same in
    there_when c.args.image.now c.args.start.now c.args.budget c.run-ask.new.unit c.run-ask.result c.is_request-unit.result c.image-image.ensures.valid its.fits its.start ask its.within

pub returns-clause-fits : goal.returns-clause-fits
returns-clause-fits c =
    let its = rw c.image-image.ensures.same at c.run-ask.ensures in
    let ask = c.run-ask.ensures.ask ∙ ap (λ (i : Image). is_at i c.args.start.now c.args.budget c.run-ask.new.unit) c.image-image.ensures.same in
    fits_waiting c.args.image.now c.args.start.now c.args.budget c.run-ask.new.unit c.run-ask.result c.is_request-unit.result c.image-image.ensures.valid its.fits its.free its.begun c.is_request-unit.ensures ask its.within
