-- The traces of an image: what its threads do that others can see, each by itself.
use Rattle.std.specs.Prelude.{◌≡◌, ℕ, ◌<◌, List, [], ◌∷◌, ◌++◌, ◌⊎◌, slice_index}
use Rattle.xmt_base.specs.declared.values.TrapKind.{TrapKind}
use Rattle.xmt_base.specs.Action as code
use Rattle.xmt_base.specs.Action.{Action, Trap, Traces}
use Rattle.xmt_base.specs.Operators.{count_between}
use Rattle.interleaving.specs.Actors.{Entry, Does}
use Rattle.interleaving.specs.Parts.{actions_of, replies_of}
use Rattle.xmt_isa.specs.declared.image.Image.{Image}
use Rattle.xmt_isa.specs.declared.unit.UnitState.TheVariants.{Runs}
use Rattle.xmt_isa.specs.declared.unit.SpawnAsk.{SpawnAsk}
use Rattle.xmt_isa.specs.declared.unit.Request.TheVariants as request
use Rattle.xmt_isa.specs.declared.unit.Next.TheVariants as next
use Rattle.xmt_isa.specs.Step.{next_of}
use Rattle.xmt_isa.specs.Machine.{broadcast}
use Rattle.xmt_isa.specs.Threads.{Actor, action_of, move, main_actor, BeginsAt, number_at}

-- the serial code comes by itself, with this part of a log, to its spawn with this request
pub record ComesToSpawn (image : Image) (part : List (Entry Action)) (a : Actor) (ask : SpawnAsk) : Type 0 where
  pub steps : ℕ
  pub does : Does (move image) steps (main_actor image) part a
  pub runs : a.unit.state ≡ Runs
  pub asks : next_of image a.start a.unit ≡ next.Ask (request.Spawn ask)

-- the replies are those of a part of a log, with any others behind them
abbrev pub AreReplies : (replies : List ℕ) → List (Entry Action) → Type 0
AreReplies replies part = (others : List ℕ) × (replies ≡ replies_of part ++ others)

-- where a thread begins: at the main function, or at a block with its number, behind what the serial code did up to the block's spawn
abbrev pub BeginsFrom : Image → code.Start → Actor → Type 0
BeginsFrom image code.Main a = a ≡ main_actor image
BeginsFrom image (code.Block before replies number) a =
    (part : List (Entry Action)) × (serial : Actor) × (ask : SpawnAsk) × (k : ℕ) ×
    ComesToSpawn image part serial ask × AreReplies replies part × (before ≡ actions_of part ++ (action_of image serial.unit (request.Spawn ask) ∷ [])) ×
    (k < count_between ask.low ask.high) × (number ≡ number_at (broadcast serial.unit ask) k) × BeginsAt (broadcast serial.unit ask) k a

-- the thread stands at this trap
pub record IsAtTrap (image : Image) (a : Actor) (kind : TrapKind) (line : ℕ) : Type 0 where
  pub runs : a.unit.state ≡ Runs
  pub traps : next_of image a.start a.unit ≡ next.Trap kind
  pub is_line : slice_index image.lines a.unit.at ≡ line

-- the actions of a part of a log, and at its end the trap at which the thread stands, if it does
abbrev pub IsTraceOf : Image → List (Entry Action) → Actor → (trace : List Action) → Type 0
IsTraceOf image part end trace =
    (trace ≡ actions_of part)
    ⊎ ((kind : TrapKind) × (line : ℕ) × IsAtTrap image end kind line × (trace ≡ actions_of part ++ (Trap kind line ∷ [])))

-- from this start a thread of the image does these actions and no other, with these replies, in so many instructions
pub record HasTrace (image : Image) (begin : code.Start) (replies : List ℕ) (trace : List Action) (work : ℕ) : Type 0 where
  pub actor : Actor
  pub begins : BeginsFrom image begin actor
  pub part : List (Entry Action)
  pub end : Actor
  pub does : Does (move image) work actor part end
  pub told : AreReplies replies part
  pub is_trace : IsTraceOf image part end trace

-- the traces of an image
abbrev pub traces_of : Image → Traces
traces_of image = λ begin replies trace work. HasTrace image begin replies trace work
