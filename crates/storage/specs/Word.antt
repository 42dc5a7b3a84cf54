-- A storage word: the low eighteen bits of a host's number. Sixteen are data, the next is the protect bit, the
-- highest is the parity bit. What a host keeps above them is ignored.
use Rattle.std.specs.Prelude.{◌≡◌, ℕ, ◌+◌, ◌-◌, ◌*◌, ◌/◌, ◌%◌, ◌<◌, Bool, true, if◌then◌else◌, ◌==◌, count_ones}

-- the eighteen bits
abbrev pub eighteen : ℕ → ℕ
eighteen w = w % 262144

abbrev pub data_of : ℕ → ℕ
data_of w = w % 65536

abbrev pub protect_bit : ℕ → ℕ
protect_bit w = w / 65536 % 2

abbrev pub parity_bit : ℕ → ℕ
parity_bit w = w / 131072 % 2

abbrev pub is_protected : ℕ → Bool
is_protected w = protect_bit w == 1

-- the count of ones among all eighteen, the protect bit and the parity bit too, has to be odd
abbrev pub parity_right : ℕ → Bool
parity_right w = count_ones (eighteen w) % 2 == 1

-- data and protect bit, without parity
abbrev pub seventeen_bits : ℕ → Bool → ℕ
seventeen_bits d p = (if p then 1 else 0) * 65536 + d

-- with the parity bit, which is on where the others hold an even count of ones
abbrev pub with_parity : ℕ → ℕ
with_parity x = x + (1 - count_ones x % 2) * 131072

-- the word of these data, protected or not
abbrev pub word_of : ℕ → Bool → ℕ
word_of d p = with_parity (seventeen_bits d p)

-- the word after a store of these data: the old protect bit, and parity right
abbrev pub stored : ℕ → ℕ → ℕ
stored old d = word_of d (is_protected old)

-- What a stored word is, in full. The law says more than that `stored` and `word_of` are such words: there is no other.
pub record Sound (d : ℕ) (p : Bool) (w : ℕ) : Type 0 where
  pub data_is : data_of w ≡ d
  pub protect_is : is_protected w ≡ p
  pub parity_is : parity_right w ≡ true
  pub high_is : w < 262144

abbrev pub OnlyWord : Type 0
OnlyWord = (d : ℕ) (p : Bool) (w : ℕ) → d < 65536 → Sound d p w → w ≡ word_of d p
