-- A worked run: two threads add 1 to the same word, on two units.
use Rattle.std.proofs.Common.{◌≡◌, refl, ℕ, true, List, [], ◌∷◌, replicate, slice_index}
use Rattle.xmt_isa.specs.declared.image.Image.{Image}
use Rattle.xmt_isa.specs.Machine.{Machine, after}
use Rattle.xmt_isa.specs.Opening.{opening}
use Rattle.xmt_isa.specs.Legal.{IsLegal}
use Rattle.xmt_base.specs.Action.{Word, Add, Spawn, Ended}
use Rattle.interleaving.specs.Actors.{part_of, Does, turns_of}
use Rattle.machine_log.specs.Log.{Log, opening_world, after_log}
use Rattle.xmt_isa.specs.Threads.{Actor, main_actor, move}

abbrev summing : Image
summing = record {
  code =
      -- low 0, high 1
      record { op = 1; a = 3; b = 0; c = 0; imm = 0 }
      ∷ record { op = 1; a = 4; b = 0; c = 0; imm = 1 }
      ∷ record { op = 44; a = 3; b = 4; c = 0; imm = 0 }
      -- the block adds 1 to data word 0
      ∷ record { op = 1; a = 5; b = 0; c = 0; imm = 1 }
      ∷ record { op = 33; a = 5; b = 0; c = 0; imm = 0 }
      ∷ record { op = 45; a = 0; b = 0; c = 0; imm = 0 }
      ∷ record { op = 24; a = 0; b = 0; c = 0; imm = 0 }
      ∷ [];
  lines = replicate 7 1;
  functions = record { start = 0; slots = 0; inner = 0 } ∷ [];
  texts = [];
  symbols = [];
  words = 7 ∷ [];
  ps = replicate 8 0;
  outer = 0;
  entry = 0;
}

-- the second unit adds before the first one, and draws last
abbrev schedule : List ℕ
schedule = 0 ∷ 0 ∷ 0 ∷ 1 ∷ 2 ∷ 1 ∷ 2 ∷ 2 ∷ 1 ∷ 2 ∷ 1 ∷ 0 ∷ []

abbrev log : Log
log =
    record { actor = 0; action = Spawn 0 0 1; reply = 0 }
    ∷ record { actor = 2; action = Add (Word 0) 1; reply = 7 }
    ∷ record { actor = 1; action = Add (Word 0) 1; reply = 8 }
    ∷ record { actor = 2; action = Ended; reply = 0 }
    ∷ record { actor = 1; action = Ended; reply = 0 }
    ∷ record { actor = 0; action = Ended; reply = 0 }
    ∷ []

abbrev there : Machine
there = after summing (opening summing (7 ∷ []) 2) schedule

word_is_9 : slice_index there.words 12 ≡ 9
word_is_9 = refl

legal : IsLegal summing (opening summing (7 ∷ []) 2) schedule
legal = ((refl, refl), ((refl, refl), ((refl, refl), ((refl, refl), ((refl, refl), ((refl, refl), ((refl, refl), ((refl, refl), ((refl, refl), ((refl, refl), ((refl, refl), ((refl, refl), tt))))))))))))

-- the log tells the same words, of which there are more than four
words_agree : there.words ≡ (after_log summing (opening_world summing (7 ∷ [])) log).words
words_agree = refl

all_end : (after_log summing (opening_world summing (7 ∷ [])) log).ended 0 ≡ true
all_end = refl

-- the serial code by itself: two numbers, the spawn, and the end
serial_does : (end : Actor) × Does (move summing) 4 (main_actor summing) (part_of 0 log) end
serial_does = (_, (refl, (refl, (refl, refl))))

-- unit 2 has had four turns: it drew, and the thread 1 of the spawn took three steps of its own
unit_turns : turns_of 2 schedule ≡ 4
unit_turns = refl
