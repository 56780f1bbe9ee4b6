-- The tokens of the whole language that parts of a thin source are, one behind the other.
use Rattle.std.proofs.Common.{◌≡◌, ◌⊎◌, inl, inr, ◌∷◌, ◌++◌, append_assoc, Some, ap, ◌∙◌, subst, arith}
use Rattle.std.proofs.lemmas.List.{map-append}
use Rattle.xmt_base.specs.declared.operators.BinOp.{BinOp}
use Rattle.xmt_base.specs.declared.operators.BinOp.TheVariants as op
use Rattle.thin_source.specs.Grammar.{product_op, sum_op}
use Rattle.thin_source.specs.Grammar as thin
use Rattle.xmt_lex.specs.declared.TokenKind.TheVariants as kind
use Rattle.xmt_lex.specs.declared.kinds.Mark.TheVariants as m
use Rattle.raw_tree.specs.Level.{Tokens}
use Rattle.thin_law.proofs.Trees.{IsMark, times, plus, minus}
use Rattle.thin_law.proofs.SameTokens.{Kind, Token, whole_kind, whole_token, whole_tokens}

-- a part, a token and a part, with what stands behind
pub over : (x : thin.Tokens) (c : Token) (y : thin.Tokens) (r : Tokens) → whole_tokens (x ++ c ∷ y) ++ r ≡ whole_tokens x ++ (whole_token c ∷ (whole_tokens y ++ r))
over x c y r = ap (λ (us : Tokens). us ++ r) (map-append whole_token x (c ∷ y)) ∙ append_assoc (whole_tokens x) (whole_token c ∷ whole_tokens y) r

pub beside : (x y : thin.Tokens) (r : Tokens) → whole_tokens (x ++ y) ++ r ≡ whole_tokens x ++ (whole_tokens y ++ r)
beside x y r = ap (λ (us : Tokens). us ++ r) (map-append whole_token x y) ∙ append_assoc (whole_tokens x) (whole_tokens y) r

-- the operators
pub product_kind : (k : Kind) (o : BinOp) → product_op k ≡ Some o → whole_kind k ≡ kind.Mark m.Star
product_kind k o h = grind (arith, h)

pub sum_kind : (k : Kind) (o : BinOp) → sum_op k ≡ Some o → (whole_kind k ≡ kind.Mark m.Plus) ⊎ (whole_kind k ≡ kind.Mark m.Minus)
sum_kind k o h = grind (arith, h)

-- with the operator that each mark is
pub product_mark : (k : Kind) (o : BinOp) → product_op k ≡ Some o → IsMark o m.Star
product_mark k o h = let is : op.Mul ≡ o = grind (arith, h) in subst (λ (p : BinOp). IsMark p m.Star) is times

pub sum_mark : (k : Kind) (o : BinOp) → sum_op k ≡ Some o → ((whole_kind k ≡ kind.Mark m.Plus) × IsMark o m.Plus) ⊎ ((whole_kind k ≡ kind.Mark m.Minus) × IsMark o m.Minus)
sum_mark k o h =
    let is : ((whole_kind k ≡ kind.Mark m.Plus) × (op.Add ≡ o)) ⊎ ((whole_kind k ≡ kind.Mark m.Minus) × (op.Sub ≡ o)) = grind (arith, h) in
    elim is [
      | inl add ↦ inl (add.0, subst (λ (p : BinOp). IsMark p m.Plus) add.1 plus)
      | inr sub ↦ inr (sub.0, subst (λ (p : BinOp). IsMark p m.Minus) sub.1 minus)
    ]
