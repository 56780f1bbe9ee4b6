-- What each kind of step on the table tells its caller, and what it does to the views.
use Rattle.std.specs.Prelude.{◌≡◌, ℕ, ◌+◌, ◌-◌, [], Some, None, false}
use Rattle.atomic_table.specs.Table.{Step, Me}
use Rattle.shared_words.specs.declared.log.Action.{Action}
use Rattle.shared_words.specs.declared.log.Known.{Known}
use Rattle.shared_words.specs.declared.rule.View.{View}
use Rattle.shared_words.specs.Passes.{Accesses, Enrols, Merges}
use Rattle.shared_words.specs.Rule.{IsWhole, WritesWithOwn, view_of, known_of}

-- Each says what a step st told its caller: m and n are the seat before and after it, and r is the word found
module _ {S : Type 0} where
  -- an access at another word than 0
  abbrev pub Accessed : Action → Step S → Me S View → ℕ → Me S View → Type 0
  Accessed action st m r n = IsWhole n × Accesses m.0.known n.0.known action st.word st.first r

  -- an enrolment
  abbrev pub Drew : Step S → Me S View → ℕ → Me S View → Type 0
  Drew st m r n = IsWhole n × Enrols m.0.known n.0.known r

-- a view that gave away room
abbrev pub giver : ℕ → View → View
giver amount v = record v { known = record v.known { room = v.known.room - amount } }

-- a new view with that room, which has seen the same
abbrev pub given : ℕ → View → View
given amount v = view_of (known_of [] None amount v.known.seen.opened v.known.seen.entries)

-- a view with the room of both, which has taken in the other and keeps its numbers and what it had seen beside its own
abbrev pub taker : View → View → View
taker v w = record v { known = record v.known { room = v.known.room + w.known.room }; taken = Some record { numbers = w.known.numbers; seen = w.known.seen } }

-- a view that was taken in
abbrev pub spent_view : View
spent_view = record { live = false; known = known_of [] None 0 [] []; taken = None }

module _ {S : Type 0} where
  -- a look, where the one view had taken in the other
  abbrev pub Looked : Step S → Me S View → ℕ → Me S View → Type 0
  Looked st m r n = (before from : Known) → m.0 ≡ taker (view_of before) (view_of from) → WritesWithOwn before.writes_with before.numbers → IsWhole n × Merges before from n.0.known
