-- A list of new workers, with one more.
use Rattle.std.proofs.Common.{◌≡◌, sym, subst, List, [], ◌∷◌, ◌++◌, All}
use Rattle.std.proofs.lemmas.List.Elements.{All-push}
use Rattle.spawn_join.specs.declared.worker.Worker.{Worker}
use Rattle.section_tests.specs.Due.{IsNew}

pub all_pushed : (old new : List Worker) (w : Worker) → new ≡ old ++ w ∷ [] → All IsNew old → IsNew w → All IsNew new
all_pushed old new w is before last = subst (λ ws. All IsNew ws) (sym is) (All-push IsNew old w before last)
