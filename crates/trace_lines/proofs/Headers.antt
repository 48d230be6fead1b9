-- The numbers of a header.
use Rattle.std.proofs.Common.{◌≡◌, ℕ, List, [], ◌++◌, pos, ap, ◌∙◌}
use Rattle.report_lines.specs.Lines.{number_text}

pub four_numbers : (bytes ranks workers eager rest : List ℕ) (a b c d : ℕ) → bytes ≡ number_text (pos a) ++ ranks → ranks ≡ number_text (pos b) ++ workers
    → workers ≡ number_text (pos c) ++ eager → eager ≡ number_text (pos d) ++ rest → rest ≡ []
    → bytes ≡ number_text (pos a) ++ (number_text (pos b) ++ (number_text (pos c) ++ (number_text (pos d) ++ [])))
four_numbers bytes ranks workers eager rest a b c d one two three four five = one ∙ ap (λ t. number_text (pos a) ++ t) (two ∙ ap (λ t. number_text (pos b) ++ t)
    (three ∙ ap (λ t. number_text (pos c) ++ t) (four ∙ ap (λ t. number_text (pos d) ++ t) five)))
