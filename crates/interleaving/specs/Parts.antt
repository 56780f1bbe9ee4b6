-- What a thread's part of a log tells of the thread by itself: its actions, and the replies that it takes.
use Rattle.std.specs.Prelude.{ℕ, Bool, true, false, if◌then◌else◌, List, [], ◌∷◌}
use Rattle.xmt_base.specs.Action.{Action, Load, Add}
use Rattle.interleaving.specs.Actors.{Entry}

abbrev pub actions_of : List (Entry Action) → List Action
actions_of [] = []
actions_of (e ∷ part) = e.action ∷ actions_of part

-- loads and adds are told what was there
abbrev pub takes_reply : Action → Bool
takes_reply (Load place) = true
takes_reply (Add place value) = true
takes_reply _ = false

-- the replies that a thread takes by itself
abbrev pub replies_of : List (Entry Action) → List ℕ
replies_of [] = []
replies_of (e ∷ part) = if takes_reply e.action then e.reply ∷ replies_of part else replies_of part
