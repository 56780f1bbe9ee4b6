-- A source that is refused breaks that rule first, and one that isn't is accepted.
use Rattle.std.proofs.Common.{◌≡◌, inl, inr, sym, subst, refl, ℕ, ◌^◌, ◌≤◌, length, List, Result, Ok, Err}
use Rattle.xmt_lex.specs.declared.Token.{Token}
use Rattle.xmt_lex.specs.declared.LexRefusal.{LexRefusal}
use Rattle.xmt_lex.specs.declared.LexRefusal.TheVariants as lexing
use Rattle.xmt_lex.specs.Lex.{tokens, Lexes}
use Rattle.raw_tree.specs.declared.tree.RawProgram.{RawProgram}
use Rattle.xmt_parse.specs.declared.ParseRefusal.{ParseRefusal}
use Rattle.xmt_parse.specs.declared.ParseRefusal.TheVariants as parsing
use Rattle.xmt_parse.specs.Law.{Parses}
use Rattle.xmt_types.specs.declared.refusal.NameRefusal.{NameRefusal}
use Rattle.xmt_types.specs.declared.refusal.NameRefusal.TheVariants as naming
use Rattle.xmt_types.specs.Answers.{Resolved}
use Rattle.typed_programs.specs.Items.{Resolves}
use Rattle.source_meaning.specs.declared.tree.Program.{Program}
use Rattle.spawn_check.specs.Table.{MeetsNone}
use Rattle.spawn_check.specs.Words.{words_of}
use Rattle.front_end.specs.declared.refusal.SourceRefusal.{SourceRefusal}
use Rattle.front_end.specs.declared.refusal.SourceRefusal.TheVariants.{Refused, NoMemory}
use Rattle.front_end.specs.Kinds.{of_tokens, of_parser, of_names}
use Rattle.front_end.specs.Refused.{HasTokens, IsTree, IsRefusal, tokens_are_broken, brackets_are_broken, grammar_is_broken, names_are_broken, blocks_are_broken, words_are_broken}
use Rattle.front_end.specs.Reads.{Fronts, ChecksProgram}

pub has_tokens : (source : List ℕ) (ts : List Token) → length source ≤ 2 ^ 20 → tokens source ≡ Ok ts → HasTokens source ts
has_tokens source ts short are = record { short = short; are_tokens = are }

pub tokens_refused : (source : List ℕ) (e : LexRefusal) (r : SourceRefusal) → length source ≤ 2 ^ 20 → r ≡ of_tokens e → Lexes (Err e) (tokens source) → IsRefusal source r
tokens_refused source (lexing.Refused kind p) r short is h = subst (IsRefusal source) (sym is) (tokens_are_broken kind refl (short, h))
tokens_refused source lexing.NoMemory r short is h = subst (IsRefusal source) (sym is) tt

pub tree_spelled : (source : List ℕ) (ts : List Token) (tree : RawProgram) → Parses (Ok tree) source ts → IsTree source ts tree
tree_spelled source ts tree h = record { shallow = h.2; spelled = h.0; end = h.1 }

pub tree_refused : (source : List ℕ) (ts : List Token) (e : ParseRefusal) (r : SourceRefusal) → HasTokens source ts → r ≡ of_parser e → Parses (Err e) source ts → IsRefusal source r
tree_refused source ts (parsing.TooDeep p) r has is h = subst (IsRefusal source) (sym is) (brackets_are_broken refl (ts, has, h))
tree_refused source ts (parsing.Syntax p) r has is h = subst (IsRefusal source) (sym is) (grammar_is_broken refl (ts, has, record { shallow = h.0; nothing = h.1; place = h.2 }))
tree_refused source ts parsing.NoMemory r has is h = subst (IsRefusal source) (sym is) tt

pub names_refused : (source : List ℕ) (ts : List Token) (tree : RawProgram) (e : NameRefusal) (r : SourceRefusal) → HasTokens source ts → IsTree source ts tree → r ≡ of_names e → Resolved tree (Err e) → IsRefusal source r
names_refused source ts tree (naming.Refused kind p) r has is_tree is h = subst (IsRefusal source) (sym is) (names_are_broken kind refl (ts, has, (tree, is_tree, h)))
names_refused source ts tree naming.NoMemory r has is_tree is h = subst (IsRefusal source) (sym is) tt

pub program_checked : (source : List ℕ) (ts : List Token) (tree : RawProgram) (program : Program) (answer : Result Program SourceRefusal) →
    HasTokens source ts → IsTree source ts tree → Resolves tree program → ChecksProgram program answer → Fronts source answer
program_checked source ts tree program (Ok checked) has is_tree resolved h =
    record {
      tokens = ts;
      are_tokens = has;
      tree = tree;
      is_tree = is_tree;
      resolved = subst (Resolves tree) (sym h.0) resolved;
      blocks = subst MeetsNone (sym h.0) h.1;
      few_words = subst (λ (p : Program). words_of p ≤ 2 ^ 20) (sym h.0) h.2;
    }
program_checked source ts tree program (Err (Refused kind p)) has is_tree resolved (inl (k, is, first)) =
    blocks_are_broken k is (ts, has, (tree, is_tree, (program, resolved, first)))
program_checked source ts tree program (Err (Refused kind p)) has is_tree resolved (inr (is, place, many)) =
    words_are_broken is place (ts, has, (tree, is_tree, (program, resolved, many)))
program_checked source ts tree program (Err NoMemory) has is_tree resolved h = tt
