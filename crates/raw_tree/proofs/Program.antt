-- The laws of whole programs.
use Rattle.std.proofs.Common.{◌≡◌, ℕ, max, ◌≤◌, List, [], None, sym, ap, ◌∙◌, arith}
use Rattle.std.proofs.lemmas.Option.{same_Some}
use Rattle.raw_tree.specs.declared.tree.RawItem.{RawItem}
use Rattle.raw_tree.specs.Level.{Tokens}
use Rattle.raw_tree.specs.Items.{SpellsItems}
use Rattle.raw_tree.specs.Reading.{Got, got}
use Rattle.raw_tree.specs.ReadingItems.{read_items}
use Rattle.raw_tree.proofs.CompleteItems.{complete_items}
use Rattle.raw_tree.proofs.SoundItems.{sound_program}

pub one_program : (source : List ℕ) (n k : ℕ) (a b : List RawItem) (ts : Tokens) → SpellsItems source n a ts → SpellsItems source k b ts → a ≡ b
one_program source n k a b ts left right =
    ap (λ (g : Got (List RawItem)). g.tree) (same_Some _ _ (sym (complete_items source (max n k) left (omega arith)) ∙ complete_items source (max n k) right (omega arith)))

pub spelled : (source : List ℕ) (depth : ℕ) (ts : Tokens) (all : List RawItem) → read_items source depth ts ≡ got all 0 [] → (n : ℕ) × SpellsItems source n all ts × (n ≤ depth)
spelled source depth ts all found = sound_program source depth ts _ found

pub none_spelled : (source : List ℕ) (depth : ℕ) (ts : Tokens) → read_items source depth ts ≡ None → (all : List RawItem) (n : ℕ) → SpellsItems source n all ts → n ≤ depth → ⊥
none_spelled source depth ts nothing all n h fits = let both : None ≡ got all 0 [] = sym nothing ∙ complete_items source depth h fits in absurd (cc)
