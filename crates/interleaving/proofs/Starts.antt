-- Each log says where its threads begin.
use Rattle.std.proofs.Common.{◌≡◌, refl, sym, ◌∙◌, ap, ℕ, ◌+◌, ◌-◌, ◌%◌, ◌^◌, ◌<◌, ◌≤◌, nat_lt, nat_le, ◌&&◌, true, false, List, [], ◌∷◌, ◌++◌, arith, append-nil, append_assoc}
use Rattle.xmt_base.specs.Action.{Action, Start, Main, Block}
use Rattle.xmt_base.specs.Action as action
use Rattle.xmt_base.specs.Operators.{count_between}
use Rattle.interleaving.specs.Actors.{Entry, part_of}
use Rattle.interleaving.specs.Parts.{actions_of, replies_of}
use Rattle.interleaving.specs.Starts.{count_after, count_behind, start_at, start_behind, start_of, AreStarts}

-- there are never fewer threads than before
count_grows_at : (count : ℕ) (x : Action) → count ≤ count_after count x
count_grows_at count (action.Load place) = omega arith
count_grows_at count (action.Store place v) = omega arith
count_grows_at count (action.Add place v) = omega arith
count_grows_at count (action.Print text) = omega arith
count_grows_at count (action.Spawn site low high) = omega arith
count_grows_at count (action.Trap kind line) = omega arith
count_grows_at count action.Ended = omega arith

pub count_grows : (log : List (Entry Action)) (count : ℕ) → count ≤ count_behind count log
count_grows [] count = omega arith
count_grows (e ∷ log) count =
    let one : count ≤ count_after count e.action = count_grows_at count e.action in
    let rest : count_after count e.action ≤ count_behind (count_after count e.action) log = count_grows log (count_after count e.action) in
    omega (arith, one, rest)

pub count_behind-append : (count : ℕ) (first second : List (Entry Action)) → count_behind count (first ++ second) ≡ count_behind (count_behind count first) second
count_behind-append count [] second = refl
count_behind-append count (e ∷ first) second = count_behind-append (count_after count e.action) first second

-- an action makes no thread below those that it finds, and none beyond
made_above : (before : List (Entry Action)) (x : Action) (count : ℕ) (otherwise : Start) (t : ℕ) → t < count → start_at before x count otherwise t ≡ otherwise
made_above before (action.Load place) count otherwise t less = refl
made_above before (action.Store place v) count otherwise t less = refl
made_above before (action.Add place v) count otherwise t less = refl
made_above before (action.Print text) count otherwise t less = refl
made_above before (action.Spawn site low high) count otherwise t less =
    let not_there : (nat_le count t && nat_lt t (count + count_between low high)) ≡ false = grind (arith, less) in
    rw not_there refl
made_above before (action.Trap kind line) count otherwise t less = refl
made_above before action.Ended count otherwise t less = refl

made_below : (before : List (Entry Action)) (x : Action) (count : ℕ) (otherwise : Start) (t : ℕ) → count_after count x ≤ t → start_at before x count otherwise t ≡ otherwise
made_below before (action.Load place) count otherwise t more = refl
made_below before (action.Store place v) count otherwise t more = refl
made_below before (action.Add place v) count otherwise t more = refl
made_below before (action.Print text) count otherwise t more = refl
made_below before (action.Spawn site low high) count otherwise t more =
    let not_there : (nat_le count t && nat_lt t (count + count_between low high)) ≡ false = grind (arith, more) in
    rw not_there refl
made_below before (action.Trap kind line) count otherwise t more = refl
made_below before action.Ended count otherwise t more = refl

made_here : (before : List (Entry Action)) (site low high count k : ℕ) (otherwise : Start) → k < count_between low high → start_at before (action.Spawn site low high) count otherwise (count + k) ≡ Block (actions_of (part_of 0 before) ++ (action.Spawn site low high ∷ [])) (replies_of (part_of 0 before)) ((low + k) % 2 ^ 32)
made_here before site low high count k otherwise less =
    let there : (nat_le count (count + k) && nat_lt (count + k) (count + count_between low high)) ≡ true = grind (arith, less) in
    let sum : (count + k) - count ≡ k = omega arith in
    rw (there, sum) refl

serial_main : (log before : List (Entry Action)) (count : ℕ) → 0 < count → start_behind before count log 0 ≡ Main
serial_main [] before count positive = refl
serial_main (e ∷ log) before count positive =
    let grows : count ≤ count_after count e.action = count_grows_at count e.action in
    made_above before e.action count (start_behind (before ++ (e ∷ [])) (count_after count e.action) log 0) 0 positive ∙
    serial_main log (before ++ (e ∷ [])) (count_after count e.action) (omega (arith, positive, grows))

virtual_block : (before after pre : List (Entry Action)) (site low high reply k count : ℕ) → k < count_between low high →
    start_behind pre count (before ++ (record { actor = 0; action = action.Spawn site low high; reply = reply } ∷ after)) (count_behind count before + k) ≡
    Block (actions_of (part_of 0 (pre ++ before)) ++ (action.Spawn site low high ∷ [])) (replies_of (part_of 0 (pre ++ before))) ((low + k) % 2 ^ 32)
virtual_block [] after pre site low high reply k count less =
    made_here pre site low high count k (start_behind (pre ++ (record { actor = 0; action = action.Spawn site low high; reply = reply } ∷ [])) (count + count_between low high) after (count + k)) less ∙
    ap (λ b. Block (actions_of (part_of 0 b) ++ (action.Spawn site low high ∷ [])) (replies_of (part_of 0 b)) ((low + k) % 2 ^ 32)) (sym (append-nil pre))
virtual_block (x ∷ before) after pre site low high reply k count less =
    let e : Entry Action = record { actor = 0; action = action.Spawn site low high; reply = reply } in
    let next : ℕ = count_after count x.action in
    let grows : count_after count x.action ≤ count_behind (count_after count x.action) before = count_grows before (count_after count x.action) in
    made_below pre x.action count (start_behind (pre ++ (x ∷ [])) next (before ++ (e ∷ after)) (count_behind next before + k)) (count_behind next before + k) (omega (arith, grows)) ∙
    virtual_block before after (pre ++ (x ∷ [])) site low high reply k next less ∙
    ap (λ b. Block (actions_of (part_of 0 b) ++ (action.Spawn site low high ∷ [])) (replies_of (part_of 0 b)) ((low + k) % 2 ^ 32)) (append_assoc pre (x ∷ []) before)

pub are_starts : (log : List (Entry Action)) → AreStarts log (start_of log)
are_starts log =
    record {
      serial = serial_main log [] 1 (omega arith);
      virtual = λ before after site low high reply k is_log less. ap (λ l. start_of l (count_behind 1 before + k)) is_log ∙ virtual_block before after [] site low high reply k 1 less;
    }
