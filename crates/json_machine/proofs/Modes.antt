-- The modes of the machine, their numbers, and that what is computed of all of them holds of each. Written by tools/json_tables.py.
-- Assumes nothing.
use Prim.Native.Nat.{ℕ, ◌+◌}
use mathlib.Core.Path.{◌≡◌, ap}
use mathlib.Core.List.{List, [], ◌∷◌, ◌++◌, map}
use lib.ListN.{get_or}

-- in a number, or in false, null or true
pub data Token : Type 0 where
  t-minus t-zero t-whole t-point t-frac t-exp t-sign t-power t-alse t-lse t-se t-e t-ull t-ll t-l t-rue t-ue : Token

-- in a string
pub data Str : Type 0 where
  s-char s-escape s-hex4 s-hex3 s-hex2 s-hex1 s-tail1 s-tail2 s-tail3 s-afterE0 s-afterED s-afterF0 s-afterF4 : Str

-- in the four modes from m-firstItem on and in a member's name, which kind the innermost open one has is known by the mode
pub data Mode : Type 0 where
  m-value m-after m-firstItem m-firstMember m-key m-colon : Mode
  m_token : Token → Mode
  m_string : Str → Mode
  m_name : Str → Mode

-- what an entry of the tables says
pub data Act : Type 0 where
  to : Mode → Act
  fault stop again openArray openObject close : Act

-- all, in the order of their numbers
abbrev pub tokens : List Token
tokens = t-minus ∷ t-zero ∷ t-whole ∷ t-point ∷ t-frac ∷ t-exp ∷ t-sign ∷ t-power ∷ t-alse ∷ t-lse ∷ t-se ∷ t-e ∷ t-ull ∷ t-ll ∷ t-l ∷ t-rue ∷ t-ue ∷ []

abbrev pub strings : List Str
strings = s-char ∷ s-escape ∷ s-hex4 ∷ s-hex3 ∷ s-hex2 ∷ s-hex1 ∷ s-tail1 ∷ s-tail2 ∷ s-tail3 ∷ s-afterE0 ∷ s-afterED ∷ s-afterF0 ∷ s-afterF4 ∷ []

-- by its number
abbrev pub acts : List Act
acts =
    to m-value ∷ to m-firstItem ∷ to m-firstMember ∷ to m-key ∷ to m-colon ∷ to m-after ∷ to m-after ∷ to m-after ∷
    (map to (map m_token tokens ++ (map m_string strings ++ map m_name strings)) ++ (fault ∷ stop ∷ again ∷ openArray ∷ openObject ∷ close ∷ []))

abbrev pub token_number : Token → ℕ
token_number t-minus = 8
token_number t-zero = 9
token_number t-whole = 10
token_number t-point = 11
token_number t-frac = 12
token_number t-exp = 13
token_number t-sign = 14
token_number t-power = 15
token_number t-alse = 16
token_number t-lse = 17
token_number t-se = 18
token_number t-e = 19
token_number t-ull = 20
token_number t-ll = 21
token_number t-l = 22
token_number t-rue = 23
token_number t-ue = 24

abbrev pub string_number : Str → ℕ
string_number s-char = 25
string_number s-escape = 26
string_number s-hex4 = 27
string_number s-hex3 = 28
string_number s-hex2 = 29
string_number s-hex1 = 30
string_number s-tail1 = 31
string_number s-tail2 = 32
string_number s-tail3 = 33
string_number s-afterE0 = 34
string_number s-afterED = 35
string_number s-afterF0 = 36
string_number s-afterF4 = 37

abbrev pub name_number : Str → ℕ
name_number s = string_number s + 13

-- two functions of a mode agree in each of these modes, if the lists of their values in all of them are the same
module _ {A : Type 0} (f g : Mode → A) where
  same_at : {k l : List A} (i : ℕ) → k ≡ l → get_or k i (f m-value) ≡ get_or l i (f m-value)
  same_at i e = ap (λ l. get_or l i (f m-value)) e

  pub each_token : map (λ t. f (m_token t)) tokens ≡ map (λ t. g (m_token t)) tokens → (t : Token) → f (m_token t) ≡ g (m_token t)
  each_token e t-minus = same_at 0 e
  each_token e t-zero = same_at 1 e
  each_token e t-whole = same_at 2 e
  each_token e t-point = same_at 3 e
  each_token e t-frac = same_at 4 e
  each_token e t-exp = same_at 5 e
  each_token e t-sign = same_at 6 e
  each_token e t-power = same_at 7 e
  each_token e t-alse = same_at 8 e
  each_token e t-lse = same_at 9 e
  each_token e t-se = same_at 10 e
  each_token e t-e = same_at 11 e
  each_token e t-ull = same_at 12 e
  each_token e t-ll = same_at 13 e
  each_token e t-l = same_at 14 e
  each_token e t-rue = same_at 15 e
  each_token e t-ue = same_at 16 e

  -- m is m_string or m_name
  pub each_string : (m : Str → Mode) → map (λ s. f (m s)) strings ≡ map (λ s. g (m s)) strings → (s : Str) → f (m s) ≡ g (m s)
  each_string m e s-char = same_at 0 e
  each_string m e s-escape = same_at 1 e
  each_string m e s-hex4 = same_at 2 e
  each_string m e s-hex3 = same_at 3 e
  each_string m e s-hex2 = same_at 4 e
  each_string m e s-hex1 = same_at 5 e
  each_string m e s-tail1 = same_at 6 e
  each_string m e s-tail2 = same_at 7 e
  each_string m e s-tail3 = same_at 8 e
  each_string m e s-afterE0 = same_at 9 e
  each_string m e s-afterED = same_at 10 e
  each_string m e s-afterF0 = same_at 11 e
  each_string m e s-afterF4 = same_at 12 e
