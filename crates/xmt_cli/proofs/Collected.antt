-- What the texts are that parts give.
use Rattle.std.proofs.Common.{◌≡◌, ◌∙◌, List, [], ◌∷◌, ◌++◌, Some, None, Option, refl, sym, ap, subst}
use Rattle.std.proofs.lemmas.Option.{option_and_then_some, same_Some}
use Rattle.std.proofs.lemmas.List.{append-nil}
use Rattle.xmt_cli.specs.declared.given.Key.TheVariants.{Units, Budget, Seed, Out, Map, Dump}
use Rattle.xmt_cli.specs.Given.{Text, Texts, once}
use Rattle.xmt_cli.specs.Spelling.{Part, file, option, files, values}
use Rattle.xmt_cli.proofs.Parts.{add, add_all}

-- one text or none, as a list
abbrev pub listed : Option Text → List Text
listed None = []
listed (Some text) = text ∷ []

-- the texts are those of before, and behind them what the parts give
pub record Collects (parts : List Part) (w t : Texts) : Type 0 where
  pub file_too : listed w.file ++ files parts ≡ listed t.file
  pub units_too : listed w.units ++ values Units parts ≡ listed t.units
  pub budget_too : listed w.budget ++ values Budget parts ≡ listed t.budget
  pub seed_too : listed w.seed ++ values Seed parts ≡ listed t.seed
  pub out_too : listed w.out ++ values Out parts ≡ listed t.out
  pub map_too : listed w.map ++ values Map parts ≡ listed t.map
  pub dump_too : listed w.dump ++ values Dump parts ≡ listed t.dump

none_before : (o : Option Text) (text : Text) (made : Option Text → Texts) (next : Texts) → once o text made ≡ Some next → o ≡ None
none_before None text made next is = refl
none_before (Some old) text made next is = cc

made_of : (o : Option Text) (text : Text) (made : Option Text → Texts) (next : Texts) → once o text made ≡ Some next → made (Some text) ≡ next
made_of None text made next is = same_Some _ _ is
made_of (Some old) text made next is = cc

-- the same texts
same_texts : (w t : Texts) → w.file ≡ t.file → w.units ≡ t.units → w.budget ≡ t.budget → w.seed ≡ t.seed → w.out ≡ t.out → w.map ≡ t.map → w.dump ≡ t.dump → w ≡ t
same_texts w t f u b s o m d =
    ap (λ (x : Option Text). record { file = x; units = w.units; budget = w.budget; seed = w.seed; out = w.out; map = w.map; dump = w.dump }) f ∙ ap (λ (x : Option Text). record { file = t.file; units = x; budget = w.budget; seed = w.seed; out = w.out; map = w.map; dump = w.dump }) u ∙ ap (λ (x : Option Text). record { file = t.file; units = t.units; budget = x; seed = w.seed; out = w.out; map = w.map; dump = w.dump }) b ∙ ap (λ (x : Option Text). record { file = t.file; units = t.units; budget = t.budget; seed = x; out = w.out; map = w.map; dump = w.dump }) s ∙ ap (λ (x : Option Text). record { file = t.file; units = t.units; budget = t.budget; seed = t.seed; out = x; map = w.map; dump = w.dump }) o ∙ ap (λ (x : Option Text). record { file = t.file; units = t.units; budget = t.budget; seed = t.seed; out = t.out; map = x; dump = w.dump }) m ∙ ap (λ (x : Option Text). record { file = t.file; units = t.units; budget = t.budget; seed = t.seed; out = t.out; map = t.map; dump = x }) d

-- one part more
one_more : (part : Part) (parts : List Part) (w next t : Texts) → add part w ≡ Some next → Collects parts next t → Collects (part ∷ parts) w t
one_more (file name) parts w next t is c =
    let before : w.file ≡ None = none_before w.file name (λ o. record w { file = o }) next is in
    let there : Collects parts (record w { file = Some name }) t = subst (λ (x : Texts). Collects parts x t) (sym (made_of w.file name (λ o. record w { file = o }) next is)) c in
    record { file_too = rw before there.file_too; units_too = there.units_too; budget_too = there.budget_too; seed_too = there.seed_too; out_too = there.out_too; map_too = there.map_too; dump_too = there.dump_too }
one_more (option Units value) parts w next t is c =
    let before : w.units ≡ None = none_before w.units value (λ o. record w { units = o }) next is in
    let there : Collects parts (record w { units = Some value }) t = subst (λ (x : Texts). Collects parts x t) (sym (made_of w.units value (λ o. record w { units = o }) next is)) c in
    record { file_too = there.file_too; units_too = rw before there.units_too; budget_too = there.budget_too; seed_too = there.seed_too; out_too = there.out_too; map_too = there.map_too; dump_too = there.dump_too }
one_more (option Budget value) parts w next t is c =
    let before : w.budget ≡ None = none_before w.budget value (λ o. record w { budget = o }) next is in
    let there : Collects parts (record w { budget = Some value }) t = subst (λ (x : Texts). Collects parts x t) (sym (made_of w.budget value (λ o. record w { budget = o }) next is)) c in
    record { file_too = there.file_too; units_too = there.units_too; budget_too = rw before there.budget_too; seed_too = there.seed_too; out_too = there.out_too; map_too = there.map_too; dump_too = there.dump_too }
one_more (option Seed value) parts w next t is c =
    let before : w.seed ≡ None = none_before w.seed value (λ o. record w { seed = o }) next is in
    let there : Collects parts (record w { seed = Some value }) t = subst (λ (x : Texts). Collects parts x t) (sym (made_of w.seed value (λ o. record w { seed = o }) next is)) c in
    record { file_too = there.file_too; units_too = there.units_too; budget_too = there.budget_too; seed_too = rw before there.seed_too; out_too = there.out_too; map_too = there.map_too; dump_too = there.dump_too }
one_more (option Out value) parts w next t is c =
    let before : w.out ≡ None = none_before w.out value (λ o. record w { out = o }) next is in
    let there : Collects parts (record w { out = Some value }) t = subst (λ (x : Texts). Collects parts x t) (sym (made_of w.out value (λ o. record w { out = o }) next is)) c in
    record { file_too = there.file_too; units_too = there.units_too; budget_too = there.budget_too; seed_too = there.seed_too; out_too = rw before there.out_too; map_too = there.map_too; dump_too = there.dump_too }
one_more (option Map value) parts w next t is c =
    let before : w.map ≡ None = none_before w.map value (λ o. record w { map = o }) next is in
    let there : Collects parts (record w { map = Some value }) t = subst (λ (x : Texts). Collects parts x t) (sym (made_of w.map value (λ o. record w { map = o }) next is)) c in
    record { file_too = there.file_too; units_too = there.units_too; budget_too = there.budget_too; seed_too = there.seed_too; out_too = there.out_too; map_too = rw before there.map_too; dump_too = there.dump_too }
one_more (option Dump value) parts w next t is c =
    let before : w.dump ≡ None = none_before w.dump value (λ o. record w { dump = o }) next is in
    let there : Collects parts (record w { dump = Some value }) t = subst (λ (x : Texts). Collects parts x t) (sym (made_of w.dump value (λ o. record w { dump = o }) next is)) c in
    record { file_too = there.file_too; units_too = there.units_too; budget_too = there.budget_too; seed_too = there.seed_too; out_too = there.out_too; map_too = there.map_too; dump_too = rw before there.dump_too }

pub collected : (parts : List Part) (w t : Texts) → add_all parts w ≡ Some t → Collects parts w t
collected [] w t is = subst (λ (x : Texts). Collects [] w x) (same_Some w t is) (record { file_too = append-nil (listed w.file); units_too = append-nil (listed w.units); budget_too = append-nil (listed w.budget); seed_too = append-nil (listed w.seed); out_too = append-nil (listed w.out); map_too = append-nil (listed w.map); dump_too = append-nil (listed w.dump) })
collected (part ∷ parts) w t is = option_and_then_some (add_all parts) (add part w) t is (λ next first second. one_more part parts w next t first (collected parts next t second))

-- and back
same_listed : (o p : Option Text) → listed o ++ [] ≡ listed p → o ≡ p
same_listed None None is = refl
same_listed None (Some b) is = cc
same_listed (Some a) None is = cc
same_listed (Some a) (Some b) is = cc

alone : (o : Option Text) (text : Text) (texts : List Text) (p : Option Text) → listed o ++ (text ∷ texts) ≡ listed p → o ≡ None
alone None text texts p is = refl
alone (Some a) text texts None is = cc
alone (Some a) text texts (Some b) is = cc

pub added : (parts : List Part) (w t : Texts) → Collects parts w t → add_all parts w ≡ Some t
added [] w t c = ap Some (same_texts w t (same_listed _ _ c.file_too) (same_listed _ _ c.units_too) (same_listed _ _ c.budget_too) (same_listed _ _ c.seed_too) (same_listed _ _ c.out_too) (same_listed _ _ c.map_too) (same_listed _ _ c.dump_too))
added (file name ∷ parts) w t c =
    let before : w.file ≡ None = alone w.file name (files parts) t.file c.file_too in
    let more = rw before at c.file_too in
    rw before (added parts (record w { file = Some name }) t (record { file_too = more; units_too = c.units_too; budget_too = c.budget_too; seed_too = c.seed_too; out_too = c.out_too; map_too = c.map_too; dump_too = c.dump_too }))
added (option Units value ∷ parts) w t c =
    let before : w.units ≡ None = alone w.units value (values Units parts) t.units c.units_too in
    let more = rw before at c.units_too in
    rw before (added parts (record w { units = Some value }) t (record { file_too = c.file_too; units_too = more; budget_too = c.budget_too; seed_too = c.seed_too; out_too = c.out_too; map_too = c.map_too; dump_too = c.dump_too }))
added (option Budget value ∷ parts) w t c =
    let before : w.budget ≡ None = alone w.budget value (values Budget parts) t.budget c.budget_too in
    let more = rw before at c.budget_too in
    rw before (added parts (record w { budget = Some value }) t (record { file_too = c.file_too; units_too = c.units_too; budget_too = more; seed_too = c.seed_too; out_too = c.out_too; map_too = c.map_too; dump_too = c.dump_too }))
added (option Seed value ∷ parts) w t c =
    let before : w.seed ≡ None = alone w.seed value (values Seed parts) t.seed c.seed_too in
    let more = rw before at c.seed_too in
    rw before (added parts (record w { seed = Some value }) t (record { file_too = c.file_too; units_too = c.units_too; budget_too = c.budget_too; seed_too = more; out_too = c.out_too; map_too = c.map_too; dump_too = c.dump_too }))
added (option Out value ∷ parts) w t c =
    let before : w.out ≡ None = alone w.out value (values Out parts) t.out c.out_too in
    let more = rw before at c.out_too in
    rw before (added parts (record w { out = Some value }) t (record { file_too = c.file_too; units_too = c.units_too; budget_too = c.budget_too; seed_too = c.seed_too; out_too = more; map_too = c.map_too; dump_too = c.dump_too }))
added (option Map value ∷ parts) w t c =
    let before : w.map ≡ None = alone w.map value (values Map parts) t.map c.map_too in
    let more = rw before at c.map_too in
    rw before (added parts (record w { map = Some value }) t (record { file_too = c.file_too; units_too = c.units_too; budget_too = c.budget_too; seed_too = c.seed_too; out_too = c.out_too; map_too = more; dump_too = c.dump_too }))
added (option Dump value ∷ parts) w t c =
    let before : w.dump ≡ None = alone w.dump value (values Dump parts) t.dump c.dump_too in
    let more = rw before at c.dump_too in
    rw before (added parts (record w { dump = Some value }) t (record { file_too = c.file_too; units_too = c.units_too; budget_too = c.budget_too; seed_too = c.seed_too; out_too = c.out_too; map_too = c.map_too; dump_too = more }))
