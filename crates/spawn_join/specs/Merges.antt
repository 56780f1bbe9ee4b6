-- What threads have done is a run of the machine.
use Rattle.std.specs.Prelude.{◌≡◌, ◌≢◌, Contains, ℕ, ◌+◌, ◌<◌, ◌^◌, List, length, slice_index, slice_index_or}
use Rattle.xmt_isa.specs.declared.image.Image.{Image}
use Rattle.xmt_isa.specs.declared.unit.Unit.{Unit}
use Rattle.xmt_isa.specs.declared.unit.Start.{Start}
use Rattle.shared_words.specs.declared.log.Entry.{Entry}
use Rattle.prefix_sum.specs.Draws.{at_place, replies, CountsUp}
use Rattle.xmt_isa.specs.Machine.{Machine}
use Rattle.machine_sections.specs.Merge.{Cells, IsOpen, Merged}
use Rattle.machine_histories.specs.Histories.{Agrees, KeepsFirst}
use Rattle.spawn_join.specs.declared.worker.Worker.{Worker}
use Rattle.spawn_join.specs.Ends.{AllStopped}
use Rattle.spawn_join.specs.Worked.{RanAtOnce, units_of}

-- Where the units of an open section ran at once over the words of a machine, a legal schedule of that machine leads to the units that
-- they have become, and to the words that they left.
abbrev pub SectionMerges : Type 0
SectionMerges =
    (image : Image) (m : Machine) (master : Unit) (words : List ℕ) (olds news : List Worker) (left : List ℕ) →
    IsOpen m master (units_of olds) → Agrees words (record { words = m.words; drawn = m.drawn }) → slice_index words 1 ≡ 0 →
    slice_index left 1 < 2 ^ 64 → m.start.count + length olds + 1 < 2 ^ 64 →
    RanAtOnce image m.start words olds news left →
    (c : Cells) × Agrees left c × Merged image m master (λ place. slice_index_or (units_of news) place master) (length (units_of olds)) c
    × KeepsFirst m.words c.words

-- The draws of units that ran at once get the numbers from 0 on, each once and none left out, and no access is at the word that halts.
-- Where all have stopped, each number below the count was drawn.
abbrev pub SectionDraws : Type 0
SectionDraws =
    (image : Image) (start : Start) (words : List ℕ) (olds news : List Worker) (left : List ℕ) →
    1 < length words → slice_index words 1 ≡ 0 → start.count + length olds + 1 < 2 ^ 64 →
    (r : RanAtOnce image start words olds news left) →
    CountsUp 0 (replies (at_place 1 r.history.entries))
    × (slice_index left 1 ≡ length (at_place 1 r.history.entries))
    × ((e : Entry) → Contains r.history.entries e → e.place ≢ 3)
    × (AllStopped news → 0 < length olds → start.count < length (at_place 1 r.history.entries))
