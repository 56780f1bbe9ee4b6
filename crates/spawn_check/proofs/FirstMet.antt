-- The first refusal that is found is the first line of the table that a program meets.
use Rattle.std.proofs.Common.{ℕ, ◌≡◌, refl, ◌∙◌, ap, sym, subst, arith, Bool, true, false, List, [], ◌∷◌, Option, Some, None, get_or, inl, inr}
use Rattle.std.specs.Prelude.{if◌then◌else◌, ◌⊎◌}
use Rattle.std.specs.List.{fold, Contains, All}
use Rattle.std.proofs.lemmas.List.Elements.{All-nil, All-cons, All-contains, Contains-append_left, Contains-append_right, Contains-get_or}
use Rattle.xmt_base.specs.declared.Place.{Place}
use Rattle.source_meaning.specs.declared.tree.Function.{Function}
use Rattle.source_meaning.specs.declared.tree.Program.{Program}
use Rattle.spawn_check.specs.declared.refusal.SpawnKind.{SpawnKind}
use Rattle.spawn_check.specs.declared.refusal.SpawnKind.TheVariants.{DollarOutside, ReturnInside, JumpOut, Nested, PrintInside, CallReachesSpawn}
use Rattle.spawn_check.specs.declared.refusal.SpawnRefusal.{SpawnRefusal}
use Rattle.spawn_check.specs.declared.things.Thing.{Thing}
use Rattle.spawn_check.specs.declared.things.Thing.TheVariants as thing
use Rattle.spawn_check.specs.declared.things.Sought.TheVariants as sought
use Rattle.spawn_check.specs.Things.{Occurrence}
use Rattle.spawn_check.specs.declared.things.Marks.{Marks}
use Rattle.spawn_check.specs.Things.{occurrence, occurrences}
use Rattle.spawn_check.specs.Marking.{AreExact}
use Rattle.spawn_check.specs.Table.{is_before, Meets, dollar_outside, return_inside, jump_out, nested, print_inside, call_prints, call_spawns, MeetsNone, IsFirst}
use Rattle.spawn_check.specs.First.{call_kind, kind_of, earlier, first_of_kind, first_with, first_in_functions}
use Rattle.spawn_check.proofs.Order.{not_before_itself, not_before_at, not_before_reversed, not_before_chained}
use Rattle.spawn_check.proofs.AllThings.{over_functions}

none_or_some : {A : Type 0} {x : A} → None ≡ Some x → ⊥
none_or_some e = cc

same_inside : {A : Type 0} {x y : A} → Some x ≡ Some y → x ≡ y
same_inside e = cc

-- ---- the first of a list of things

module _ (marks : Marks) where
  abbrev Things : Type 0
  Things = List Occurrence

  abbrev step : Option SpawnRefusal → Occurrence → Option SpawnRefusal
  step = first_with marks

  abbrev met : Occurrence → Option SpawnKind
  met o = kind_of marks o.thing o.around.inside o.around.looped

  abbrev refusal_at : SpawnKind → Place → SpawnRefusal
  refusal_at kind place = record { kind = kind; place = place }

  -- the thing is refused in this way
  record Refuses (o : Occurrence) (r : SpawnRefusal) : Type 0 where
    kind : met o ≡ Some r.kind
    place : o.place ≡ r.place

  -- one of these things is
  record SomeRefuses (os : Things) (r : SpawnRefusal) : Type 0 where
    thing : Occurrence
    among : Contains os thing
    refuses : Refuses thing r

  first_here : (o : Occurrence) (os : Things) → Contains (o ∷ os) o
  first_here o os = Contains-append_left (o ∷ []) os o (Contains-get_or (o ∷ []) 0 o (omega arith))

  later : (o : Occurrence) (os : Things) (x : Occurrence) → Contains os x → Contains (o ∷ os) x
  later o os x among = Contains-append_right (o ∷ []) os x among

  picked : (t : Bool) (a b r : SpawnRefusal) → Some (if t then b else a) ≡ Some r → (a ≡ r) ⊎ (b ≡ r)
  picked true a b r e = inr (same_inside e)
  picked false a b r e = inl (same_inside e)

  -- what is found after one more thing was found before, or is its refusal
  found_by_step : (x : Option SpawnRefusal) (place : Place) (m : Option SpawnKind) (r : SpawnRefusal) → first_of_kind x place m ≡ Some r →
      (x ≡ Some r) ⊎ ((kind : SpawnKind) × (m ≡ Some kind) × (refusal_at kind place ≡ r))
  found_by_step x place None r e = inl e
  found_by_step None place (Some kind) r e = inr (kind, refl, same_inside e)
  found_by_step (Some a) place (Some kind) r e = elim (picked (is_before (refusal_at kind place) a) a (refusal_at kind place) r e) [
    | inl before ↦ inl (ap Some before)
    | inr here ↦ inr (kind, refl, here)
  ]

  found_among : (os : Things) (x : Option SpawnRefusal) (r : SpawnRefusal) → fold step x os ≡ Some r → (x ≡ Some r) ⊎ SomeRefuses os r
  found_among [] x r e = inl e
  found_among (o ∷ os) x r e = elim (found_among os (step x o) r e) [
    | inl before ↦ elim (found_by_step x o.place (met o) r before) [
      | inl given ↦ inl given
      | inr found ↦ inr (record {
        thing = o;
        among = first_here o os;
        refuses = record { kind = found.1 ∙ ap (λ (q : SpawnRefusal). Some q.kind) found.2; place = ap (λ (q : SpawnRefusal). q.place) found.2 };
      })
    ]
    | inr behind ↦ inr (record { thing = behind.thing; among = later o os behind.thing behind.among; refuses = behind.refuses })
  ]

  abbrev NotBefore : Option SpawnRefusal → SpawnRefusal → Type 0
  NotBefore x r = (a : SpawnRefusal) → x ≡ Some a → is_before a r ≡ false

  abbrev NoneBefore : Option SpawnKind → Place → SpawnRefusal → Type 0
  NoneBefore m place r = (kind : SpawnKind) → m ≡ Some kind → is_before (refusal_at kind place) r ≡ false

  both_not_before : (t : Bool) (a b r : SpawnRefusal) → is_before b a ≡ t → is_before (if t then b else a) r ≡ false → (is_before a r ≡ false) × (is_before b r ≡ false)
  both_not_before true a b r order given = (not_before_chained a b r (not_before_reversed b a order) given, given)
  both_not_before false a b r order given = (given, not_before_chained b a r order given)

  least_by_step : (x : Option SpawnRefusal) (place : Place) (m : Option SpawnKind) (r : SpawnRefusal) → NotBefore (first_of_kind x place m) r → NotBefore x r × NoneBefore m place r
  least_by_step x place None r given = (given, λ kind e. absurd (none_or_some e))
  least_by_step None place (Some kind) r given =
      (λ a e. absurd (none_or_some e), λ kind' e. ap (λ k. is_before (refusal_at k place) r) (sym (same_inside e)) ∙ given (refusal_at kind place) refl)
  least_by_step (Some a) place (Some kind) r given =
      let b : SpawnRefusal = refusal_at kind place in
      let both = both_not_before (is_before b a) a b r refl (given (earlier (Some a) b) refl) in
      (λ a' e. ap (λ q. is_before q r) (sym (same_inside e)) ∙ both.0, λ kind' e. ap (λ k. is_before (refusal_at k place) r) (sym (same_inside e)) ∙ both.1)

  least : (os : Things) (x : Option SpawnRefusal) (r : SpawnRefusal) → fold step x os ≡ Some r → NotBefore x r × All (λ o. NoneBefore (met o) o.place r) os
  least [] x r e = (λ a found. ap (λ q. is_before q r) (same_inside (sym found ∙ e)) ∙ not_before_itself r, All-nil (λ o. NoneBefore (met o) o.place r))
  least (o ∷ os) x r e =
      let rest = least os (step x o) r e in
      let here = least_by_step x o.place (met o) r rest.0 in
      (here.0, All-cons (λ o. NoneBefore (met o) o.place r) o os here.1 rest.1)

  nothing_by_step : (x : Option SpawnRefusal) (place : Place) (m : Option SpawnKind) → first_of_kind x place m ≡ None → (x ≡ None) × (m ≡ None)
  nothing_by_step x place None e = (e, refl)
  nothing_by_step None place (Some kind) e = absurd (none_or_some (sym e))
  nothing_by_step (Some a) place (Some kind) e = absurd (none_or_some (sym e))

  nothing : (os : Things) (x : Option SpawnRefusal) → fold step x os ≡ None → (x ≡ None) × All (λ o. met o ≡ None) os
  nothing [] x e = (e, All-nil (λ o. met o ≡ None))
  nothing (o ∷ os) x e =
      let rest = nothing os (step x o) e in
      let here = nothing_by_step x o.place (met o) rest.0 in
      (here.0, All-cons (λ o. met o ≡ None) o os here.1 rest.1)

  -- ---- the things and the table

  module _ (program : Program) (prints : AreExact program.functions sought.Print marks.prints) (spawns : AreExact program.functions sought.Spawn marks.spawns) where
    abbrev IsThere : Thing → Place → (inside looped : Bool) → Type 0
    IsThere thing place inside looped = Contains (occurrences program) (occurrence thing place (record { inside = inside; looped = looped }))

    it_is : {kind : SpawnKind} {expected : SpawnKind} {place : Place} → Some expected ≡ Some kind → Meets program expected place → Meets program kind place
    it_is {kind} {expected} {place} e meets = subst (λ k. Meets program k place) (same_inside e) meets

    call_meets : (f : ℕ) (place : Place) (looped : Bool) (kind : SpawnKind) → IsThere (thing.Call f) place true looped →
        (p s : Bool) → get_or marks.prints f false ≡ p → get_or marks.spawns f false ≡ s → call_kind p s ≡ Some kind → Meets program kind place
    call_meets f place looped kind there true s p-is s-is e = it_is e (call_prints (record { found = there }) ((prints.exactly f).0 p-is))
    call_meets f place looped kind there false true p-is s-is e = it_is e (call_spawns (record { found = there }) ((spawns.exactly f).0 s-is))
    call_meets f place looped kind there false false p-is s-is e = absurd (none_or_some e)

    meets : (thing' : Thing) (place : Place) (inside looped : Bool) (kind : SpawnKind) → IsThere thing' place inside looped → kind_of marks thing' inside looped ≡ Some kind → Meets program kind place
    meets thing.Dollar place false looped kind there e = it_is e (dollar_outside (record { found = there }))
    meets thing.Return place true looped kind there e = it_is e (return_inside (record { found = there }))
    meets thing.Jump place inside false kind there e = it_is e (jump_out (record { found = there }))
    meets thing.Spawn place true looped kind there e = it_is e (nested (record { found = there }))
    meets thing.Print place true looped kind there e = it_is e (print_inside (record { found = there }))
    meets (thing.Call f) place true looped kind there e = call_meets f place looped kind there (get_or marks.prints f false) (get_or marks.spawns f false) refl refl e
    meets thing.Dollar place true looped kind there e = absurd (none_or_some e)
    meets thing.Return place false looped kind there e = absurd (none_or_some e)
    meets thing.Jump place inside true kind there e = absurd (none_or_some e)
    meets thing.Spawn place false looped kind there e = absurd (none_or_some e)
    meets thing.Print place false looped kind there e = absurd (none_or_some e)
    meets (thing.Call f) place false looped kind there e = absurd (none_or_some e)

    -- a thing by which the line is found, or one before it
    record IsSeen (kind : SpawnKind) (place : Place) : Type 0 where
      thing : Occurrence
      among : Contains (occurrences program) thing
      line : SpawnKind
      found : met thing ≡ Some line
      not_later : is_before (refusal_at kind place) (refusal_at line thing.place) ≡ false

    seen_as : (o : Occurrence) (kind : SpawnKind) → Contains (occurrences program) o → met o ≡ Some kind → IsSeen kind o.place
    seen_as o kind among found = record { thing = o; among = among; line = kind; found = found; not_later = not_before_itself (refusal_at kind o.place) }

    call_spawn_seen : (o : Occurrence) → Contains (occurrences program) o → (p : Bool) → met o ≡ call_kind p true → IsSeen CallReachesSpawn o.place
    call_spawn_seen o among true found = record { thing = o; among = among; line = PrintInside; found = found; not_later = not_before_at o.place CallReachesSpawn PrintInside (omega arith) }
    call_spawn_seen o among false found = seen_as o CallReachesSpawn among found

    seen : (kind : SpawnKind) (place : Place) → Meets program kind place → IsSeen kind place
    seen kind place (dollar_outside {looped} there) = seen_as (occurrence thing.Dollar place (record { inside = false; looped = looped })) DollarOutside there.found refl
    seen kind place (return_inside {looped} there) = seen_as (occurrence thing.Return place (record { inside = true; looped = looped })) ReturnInside there.found refl
    seen kind place (jump_out {inside} there) = seen_as (occurrence thing.Jump place (record { inside = inside; looped = false })) JumpOut there.found refl
    seen kind place (nested {looped} there) = seen_as (occurrence thing.Spawn place (record { inside = true; looped = looped })) Nested there.found refl
    seen kind place (print_inside {looped} there) = seen_as (occurrence thing.Print place (record { inside = true; looped = looped })) PrintInside there.found refl
    seen kind place (call_prints {looped} {f} there reached) =
        seen_as (occurrence (thing.Call f) place (record { inside = true; looped = looped })) PrintInside there.found
        (ap (λ p. call_kind p (get_or marks.spawns f false)) ((prints.exactly f).1 reached))
    seen kind place (call_spawns {looped} {f} there reached) =
        call_spawn_seen (occurrence (thing.Call f) place (record { inside = true; looped = looped })) there.found (get_or marks.prints f false)
        (ap (call_kind (get_or marks.prints f false)) ((spawns.exactly f).1 reached))

    abbrev all : Things
    all = occurrences program

    meets_some : (r : SpawnRefusal) → SomeRefuses all r → Meets program r.kind r.place
    meets_some r some =
        subst (λ place. Meets program r.kind place) some.refuses.place
        (meets some.thing.thing some.thing.place some.thing.around.inside some.thing.around.looped r.kind some.among some.refuses.kind)

    first_is_met : (r : SpawnRefusal) → fold step None all ≡ Some r → IsFirst program r
    first_is_met r e = record {
      met = elim (found_among all None r e) [ inl never ↦ absurd (none_or_some never) | inr some ↦ meets_some r some ];
      none_before = λ kind place line.
          let s = seen kind place line in
          not_before_chained (refusal_at kind place) (refusal_at s.line s.thing.place) r s.not_later
          (All-contains (λ o. NoneBefore (met o) o.place r) all s.thing (least all None r e).1 s.among s.line s.found);
    }

    none_is_met : fold step None all ≡ None → MeetsNone program
    none_is_met e kind place line =
        let s = seen kind place line in
        none_or_some (sym (All-contains (λ o. met o ≡ None) all s.thing (nothing all None e).1 s.among) ∙ s.found)

    pub none_met : first_in_functions marks program.functions None ≡ None → MeetsNone program
    none_met e = none_is_met (sym (over_functions marks program.functions None) ∙ e)

    pub first_met : (r : SpawnRefusal) → first_in_functions marks program.functions None ≡ Some r → IsFirst program r
    first_met r e = first_is_met r (sym (over_functions marks program.functions None) ∙ e)

-- ---- the same of a list of functions that are those of the program

module _ (marks : Marks) (program : Program) (functions : List Function) (same : functions ≡ program.functions)
    (prints : AreExact functions sought.Print marks.prints) (spawns : AreExact functions sought.Spawn marks.spawns) where
  own_prints : AreExact program.functions sought.Print marks.prints
  own_prints = subst (λ (fs : List Function). AreExact fs sought.Print marks.prints) same prints

  own_spawns : AreExact program.functions sought.Spawn marks.spawns
  own_spawns = subst (λ (fs : List Function). AreExact fs sought.Spawn marks.spawns) same spawns

  pub none_met_by : None ≡ first_in_functions marks functions None → MeetsNone program
  none_met_by e = none_met marks program own_prints own_spawns (ap (λ (fs : List Function). first_in_functions marks fs None) (sym same) ∙ sym e)

  pub first_met_by : (r : SpawnRefusal) → Some r ≡ first_in_functions marks functions None → IsFirst program r
  first_met_by r e = first_met marks program own_prints own_spawns r (ap (λ (fs : List Function). first_in_functions marks fs None) (sym same) ∙ sym e)
