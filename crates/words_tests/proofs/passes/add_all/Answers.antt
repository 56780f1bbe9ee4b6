use Rattle.std.proofs.Common.{◌≡◌, ◌∙◌, ℕ, List, length, refl, ap, arith}
use Rattle.shared_words.specs.declared.log.Entry.{Entry}
use Rattle.shared_words.specs.declared.log.Known.{Known}
use Rattle.shared_words.proofs.Gathering.{starts}
use Rattle.words_tests.proofs.passes.add_all.Goals as goal

pub loop-init : goal.loop-init
loop-init c =
    let e = c.enrol.ensures.number in
    let ran = starts (λ (u : ℕ) (es : List Entry) (v : ℕ). length es ≡ 0) c.args.pass.now.known c.enrol.new.pass.known c.enrol.result 0 c.requires.room e refl in
    (c.enrol.result, c.enrol.ensures.of, ap (λ (z : Known). z.writes_with) e.same, ran.numbers, ap length ran.run.are ∙ omega (arith, ran.run.steps))
