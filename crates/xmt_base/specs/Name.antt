-- How names are spelled.
use Rattle.std.specs.Prelude.{ℕ, ◌==◌, ◌&&◌, ◌||◌, Bool, false, not, IsTrue, List, [], ◌∷◌, codes}
use Rattle.std.specs.Char.{is_ascii_alphabetic, is_ascii_digit}
use Rattle.std.specs.List.{list_all, list_any}
use Rattle.std.specs.Str.{bytes_eq}

abbrev pub keywords : List (List ℕ)
keywords =
    codes "int" ∷ codes "void" ∷ codes "if" ∷ codes "else" ∷ codes "while" ∷ codes "do" ∷ codes "for" ∷ codes "break"
    ∷ codes "continue" ∷ codes "return" ∷ codes "const" ∷ codes "volatile" ∷ codes "spawn" ∷ codes "sspawn" ∷ codes "ps"
    ∷ codes "psm" ∷ codes "psBaseReg" ∷ codes "printf" ∷ codes "unsigned" ∷ codes "signed" ∷ codes "float" ∷ codes "double"
    ∷ codes "char" ∷ codes "short" ∷ codes "long" ∷ codes "struct" ∷ codes "union" ∷ codes "enum" ∷ codes "typedef"
    ∷ codes "extern" ∷ codes "static" ∷ codes "goto" ∷ codes "switch" ∷ codes "case" ∷ codes "default" ∷ codes "sizeof"
    ∷ codes "register" ∷ codes "auto" ∷ codes "inline" ∷ []

-- a letter or an underscore
abbrev pub is_name_start : ℕ → Bool
is_name_start c = is_ascii_alphabetic c || c == 95

-- that, or a digit
abbrev pub is_name_part : ℕ → Bool
is_name_part c = is_name_start c || is_ascii_digit c

abbrev pub is_keyword : List ℕ → Bool
is_keyword text = list_any (λ keyword. bytes_eq keyword text) keywords

-- a letter or an underscore, then letters, digits and underscores
abbrev pub is_word : List ℕ → Bool
is_word [] = false
is_word (c ∷ cs) = is_name_start c && list_all is_name_part cs

-- such a word that is no keyword
abbrev pub is_name : List ℕ → Bool
is_name text = is_word text && not (is_keyword text)

abbrev pub IsName : List ℕ → Type 0
IsName text = IsTrue (is_name text)
