-- The program of an accepted source is checked, and keeps to the limits.
use Rattle.std.proofs.Common.{ℕ, List, Result, Ok, Err}
use Rattle.std.specs.Prelude.{IfOk}
use Rattle.source_meaning.specs.declared.tree.Program.{Program}
use Rattle.token_law.proofs.Parted.{tokens_are}
use Rattle.source_trees.proofs.Trees.{spelled_trees_are_from_source}
use Rattle.resolved_programs.specs.FromSource.{IsFromSource}
use Rattle.resolved_programs.proofs.Programs.{resolved_programs_are_checked, resolved_programs_keep_limits, resolved_programs_have_few_nodes}
use Rattle.source_trees.proofs.Branches.{spelled_trees_have_plain_branches}
use Rattle.checked_programs.specs.Checked.{IsChecked}
use Rattle.checked_programs.specs.Limits.{IsWithinLimits, HasFewNodes}
use Rattle.front_end.specs.declared.refusal.SourceRefusal.{SourceRefusal}
use Rattle.front_end.specs.Refused.{IsAccepted}
use Rattle.front_end.specs.Reads.{Fronts}

module _ (source : List ℕ) (p : Program) (is : IsAccepted source p) where
  from_source : IsFromSource is.tree
  from_source =
      spelled_trees_are_from_source source is.tokens is.is_tree.spelled.0 is.tree is.are_tokens.short ((tokens_are source is.tokens).0 is.are_tokens.are_tokens) is.is_tree.spelled.1

  pub accepted_checked : IsChecked p
  accepted_checked = resolved_programs_are_checked is.tree p from_source is.resolved is.blocks

  pub accepted_limits : IsWithinLimits p
  accepted_limits = resolved_programs_keep_limits is.tree p from_source is.resolved

  pub accepted_nodes : HasFewNodes p
  accepted_nodes = resolved_programs_have_few_nodes is.tree p (spelled_trees_have_plain_branches source is.tokens is.is_tree.spelled.0 is.tree is.is_tree.spelled.1) is.resolved

pub front_checked : (source : List ℕ) (answer : Result Program SourceRefusal) → Fronts source answer → IfOk answer IsChecked
front_checked source (Ok p) h = accepted_checked source p h
front_checked source (Err refusal) h = tt

pub front_limits : (source : List ℕ) (answer : Result Program SourceRefusal) → Fronts source answer → IfOk answer IsWithinLimits
front_limits source (Ok p) h = accepted_limits source p h
front_limits source (Err refusal) h = tt

pub front_nodes : (source : List ℕ) (answer : Result Program SourceRefusal) → Fronts source answer → IfOk answer HasFewNodes
front_nodes source (Ok p) h = accepted_nodes source p h
front_nodes source (Err refusal) h = tt
