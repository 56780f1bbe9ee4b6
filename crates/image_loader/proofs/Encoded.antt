-- What encode has written.
use Rattle.std.proofs.Common.{◌≡◌, ℕ, List, [], ◌++◌, All, ap, ◌∙◌, arith}
use Rattle.xmt_isa.specs.declared.image.Image.{Image}
use Rattle.xmt_isa.specs.Valid.{IsValid}
use Rattle.image_loader.specs.Layout.{header, body, TextFits, OpeningsFit, PartsFit, Bytes}

pub encoded : (image : Image) (o o1 o2 : List ℕ) → IsValid image → OpeningsFit image → PartsFit image → o ≡ [] → o1 ≡ o ++ header image → o2 ≡ o1 ++ body image → Bytes image o2
encoded image o o1 o2 valid openings parts empty first second = record {
  fits = record {
    code = omega (arith, valid.sizes.code);
    lines = valid.sizes.lines;
    functions = omega (arith, valid.sizes.functions);
    texts = omega (arith, valid.sizes.texts);
    symbols = omega (arith, valid.sizes.symbols);
    words = omega (arith, valid.sizes.words);
    openings = openings;
    parts = parts;
  };
  spelled = second ∙ ap (λ (x : List ℕ). x ++ body image) (first ∙ ap (λ (x : List ℕ). x ++ header image) empty);
}

pub texts_fit : (image : Image) → IsValid image → All TextFits image.texts
texts_fit image valid = λ k d lt. (valid.texts.each k d lt).short
