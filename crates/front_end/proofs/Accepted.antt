-- An accepted source breaks no rule.
use Rattle.std.proofs.Common.{◌≡◌, ◌∙◌, ap, sym, subst, refl, ℕ, List, Ok, Some, None, arith}
use Rattle.xmt_base.specs.declared.Place.{Place}
use Rattle.xmt_lex.specs.declared.LexKind.{LexKind}
use Rattle.xmt_lex.specs.declared.Token.{Token}
use Rattle.xmt_lex.specs.Lex.{tokens}
use Rattle.raw_tree.specs.declared.tree.RawItem.{RawItem}
use Rattle.raw_tree.specs.declared.tree.RawProgram.{RawProgram}
use Rattle.raw_tree.proofs.Program.{one_program}
use Rattle.xmt_parse.specs.Deep.{too_deep}
use Rattle.xmt_parse.specs.Law.{IsSpelled}
use Rattle.name_scopes.specs.Fault as names
use Rattle.name_faults.specs.Items.{program_faults}
use Rattle.typed_programs.specs.Items.{Resolves, program}
use Rattle.source_meaning.specs.declared.tree.Program.{Program}
use Rattle.spawn_check.specs.Table as blocks
use Rattle.front_end.specs.declared.refusal.SourceKind.{SourceKind}
use Rattle.front_end.specs.Law.{SourcesHaveOneProgram, BrokenSourcesHaveNone}
use Rattle.front_end.specs.Refused.{HasTokens, IsTree, HasNoTree, HasManyWords, OfTokens, OfTree, OfProgram, BreaksTokens, IsAccepted, Breaks, length_is_broken, tokens_are_broken, brackets_are_broken, grammar_is_broken, names_are_broken, blocks_are_broken, words_are_broken}

same_tokens : (source : List ℕ) (ts us : List Token) → HasTokens source ts → HasTokens source us → ts ≡ us
same_tokens source ts us a b =
    let one : tokens source ≡ Ok ts = a.are_tokens in
    let other : tokens source ≡ Ok us = b.are_tokens in
    cc

same_items : (source : List ℕ) (ts : List Token) (a b : List RawItem) → IsSpelled source ts a → IsSpelled source ts b → a ≡ b
same_items source ts a b (n, left, few) (k, right, fewer) = one_program source n k a b ts left right

same_tree : (source : List ℕ) (ts : List Token) (a b : RawProgram) → IsTree source ts a → IsTree source ts b → a ≡ b
same_tree source ts a b one other =
    let items : a.items ≡ b.items = same_items source ts a.items b.items one.spelled other.spelled in
    let ends : a.end ≡ b.end = one.end ∙ sym other.end in
    ap (λ (items : List RawItem). record { items = items; end = a.end }) items ∙ ap (λ (p : Place). record { items = b.items; end = p }) ends

module _ (source : List ℕ) (p : Program) (is : IsAccepted source p) where
  -- a source has one list of tokens
  of_tokens : (P : List Token → Type 0) → OfTokens source P → P is.tokens
  of_tokens P (ts, has, h) = subst P (same_tokens source ts is.tokens has is.are_tokens) h

  -- and one tree
  of_tree : (P : RawProgram → Type 0) → OfTree source P → P is.tree
  of_tree P h = by_tree (of_tokens (λ ts. (tree : RawProgram) × IsTree source ts tree × P tree) h)
    where
      by_tree : (tree : RawProgram) × IsTree source is.tokens tree × P tree → P is.tree
      by_tree (tree, is_tree, holds) = subst P (same_tree source is.tokens tree is.tree is_tree is.is_tree) holds

  -- and one program
  of_program : (P : Program → Type 0) → OfProgram source P → P p
  of_program P h = by_program (of_tree (λ tree. (q : Program) × Resolves tree q × P q) h)
    where
      by_program : (q : Program) × Resolves is.tree q × P q → P p
      by_program (q, resolved, holds) = subst P (resolved.same ∙ sym is.resolved.same) holds

  tokens_hold : (k : LexKind) (at : Place) → BreaksTokens source k at → ⊥
  tokens_hold k at (short, broken) =
      let read : tokens source ≡ Ok is.tokens = is.are_tokens.are_tokens in
      cc

  brackets_hold : (at : Place) → OfTokens source (λ ts. too_deep 0 ts ≡ Some at) → ⊥
  brackets_hold at h =
      let deep : too_deep 0 is.tokens ≡ Some at = of_tokens (λ ts. too_deep 0 ts ≡ Some at) h in
      let shallow : too_deep 0 is.tokens ≡ None = is.is_tree.shallow in
      cc

  grammar_holds : (at : Place) → OfTokens source (HasNoTree source at) → ⊥
  grammar_holds at h = (of_tokens (HasNoTree source at) h).nothing is.tree.items is.is_tree.spelled

  -- an accepted source breaks no rule
  pub breaks_none : (kind : SourceKind) (at : Place) → Breaks source kind at → ⊥
  breaks_none kind at (length_is_broken is_kind place longer) = absurd (omega (arith, longer, is.are_tokens.short))
  breaks_none kind at (tokens_are_broken k is_kind h) = tokens_hold k at h
  breaks_none kind at (brackets_are_broken is_kind h) = brackets_hold at h
  breaks_none kind at (grammar_is_broken is_kind h) = grammar_holds at h
  breaks_none kind at (names_are_broken k is_kind h) =
      is.resolved.sound (record { kind = k; place = at })
      (of_tree (λ tree. names.IsFirst (program_faults tree) (record { kind = k; place = at })) h).among
  breaks_none kind at (blocks_are_broken k is_kind h) =
      is.blocks k at (of_program (λ (q : Program). blocks.IsFirst q (record { kind = k; place = at })) h).met
  breaks_none kind at (words_are_broken is_kind place h) = absurd (omega (arith, (of_program HasManyWords h).many, is.few_words))

pub broken_has_none : BrokenSourcesHaveNone
broken_has_none source kind place broken program is = breaks_none source program is kind place broken

-- one source has one program
pub accepted_as_one : SourcesHaveOneProgram
accepted_as_one source p q is other = of_program source q other (λ (program : Program). p ≡ program) (is.tokens, is.are_tokens, (is.tree, is.is_tree, (p, is.resolved, refl)))
