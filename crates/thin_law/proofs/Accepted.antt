-- A thin source is accepted, as the same program.
use Rattle.std.proofs.Common.{◌≡◌, ap, refl, ℕ, ◌^◌, ◌≤◌, List, arith}
use Rattle.source_meaning.specs.declared.tree.Program.{Program}
use Rattle.source_meaning.specs.Layout.{all_words}
use Rattle.raw_tree.specs.declared.tree.RawProgram.{RawProgram}
use Rattle.xmt_parse.specs.Law.{end_of}
use Rattle.spawn_check.specs.Words.{words_of}
use Rattle.thin_source.specs.Thin.{IsThin, main_program}
use Rattle.thin_law.proofs.Spelled.{HasItems, thin_items}
use Rattle.thin_law.proofs.Resolved.{resolves}
use Rattle.thin_law.proofs.Spawns.{no_refusal}
use Rattle.front_end.specs.Refused.{IsAccepted}

-- a thin program shares no variable, and its globals have few words
few_words : (source : List ℕ) (program : Program) → IsThin source program → words_of program ≤ 2 ^ 20
few_words source program thin =
    let same : words_of program ≡ words_of (main_program thin.globals thin.body) = ap words_of thin.is_program in
    let few : all_words thin.globals ≤ 2 ^ 20 = thin.few_words in
    omega (arith, same, few)

pub thin_accepted : (source : List ℕ) (program : Program) → IsThin source program → IsAccepted source program
thin_accepted source program thin =
    let whole : HasItems source thin.nodes thin.globals thin.body = thin_items source program thin in
    let tree : RawProgram = record { items = whole.items; end = end_of source } in
    record {
      tokens = whole.tokens;
      are_tokens = record { short = thin.short; are_tokens = whole.are_tokens };
      tree = tree;
      is_tree = record { shallow = whole.few_open; spelled = whole.spelled; end = refl };
      resolved = resolves source program thin whole.tokens whole.are_tokens tree whole.spelled;
      blocks = no_refusal source program thin;
      few_words = few_words source program thin;
    }
