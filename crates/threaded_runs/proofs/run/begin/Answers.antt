use Rattle.std.proofs.Common.{◌≡◌, ◌∙◌, length}
use Rattle.machine_turns.proofs.Texts.{ok_more}
use Rattle.threaded_runs.proofs.Numbers.{numbered_first, words_first}
use Rattle.threaded_runs.proofs.run.begin.Goals as goal

pub returns-clause-numbered : goal.returns-clause-numbered
returns-clause-numbered c = ok_more c.opening.result _ _ (λ m begins. numbered_first c.args.image.now c.args.memory.now.words c.args.n m begins) c.opening.ensures.machine

pub returns-clause-words : goal.returns-clause-words
returns-clause-words c =
    let eight : length c.args.image.now.ps ≡ 8 = rw c.image.ensures.same at c.registers-registers.ensures.eight in
    ok_more c.opening.result _ _ (λ m begins. m.words.ok.0 ∙ words_first c.args.image.now c.args.memory.now.words c.args.n m begins eight c.requires.memory) c.opening.ensures.machine
