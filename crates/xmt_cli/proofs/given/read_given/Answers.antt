use Rattle.std.proofs.Common.{◌≡◌, ◌∙◌, ◌<◌, sym, ap, map, length, get_or, string_bytes, []}
use Rattle.std.specs.Option.{option_map}
use Rattle.std.proofs.lemmas.List.{get_or-map, length-map}
use Rattle.xmt_cli.specs.Given.{take_next}
use Rattle.xmt_cli.specs.Seen.{seen_state}
use Rattle.xmt_cli.proofs.Walks.{walk_step, walk_stop}
use Rattle.xmt_cli.proofs.given.read_given.Goals as goal

pub returns-in-None : goal.returns-in-None
returns-in-None c =
    let here : c.loop-word.word-index < length (map string_bytes c.args.words.now) = rw length-map c.loop-word-test.true in
    let text : get_or (map string_bytes c.args.words.now) c.loop-word.word-index [] ≡ c.as_str.result.now = get_or-map string_bytes c.args.words.now c.loop-word.word-index c.word-item.result [] c.loop-word-test.true ∙ ap string_bytes (sym c.word-item.is) ∙ sym c.as_str.ensures.value in
    sym (sym c.loop-word.invariant ∙ walk_stop (seen_state c.loop-word.state) (map string_bytes c.args.words.now) c.loop-word.word-index here (ap (take_next (seen_state c.loop-word.state)) text ∙ sym c.take_next.ensures ∙ ap (option_map seen_state) c.in-None.is))

pub loop-word-preserved : goal.loop-word-preserved
loop-word-preserved c =
    let here : c.loop-word.word-index < length (map string_bytes c.args.words.now) = rw length-map c.loop-word-test.true in
    let text : get_or (map string_bytes c.args.words.now) c.loop-word.word-index [] ≡ c.as_str.result.now = get_or-map string_bytes c.args.words.now c.loop-word.word-index c.word-item.result [] c.loop-word-test.true ∙ ap string_bytes (sym c.word-item.is) ∙ sym c.as_str.ensures.value in
    sym (walk_step (seen_state c.loop-word.state) (seen_state c.in-Some.next) (map string_bytes c.args.words.now) c.loop-word.word-index here (ap (take_next (seen_state c.loop-word.state)) text ∙ sym c.take_next.ensures ∙ ap (option_map seen_state) c.in-Some.is)) ∙ c.loop-word.invariant
