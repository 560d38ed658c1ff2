-- The keys of the classes, and what a class says of a key.
use Rattle.std.specs.Prelude.{Bool, true, false, ◌==◌, if◌then◌else◌}
use Rattle.std.proofs.Common.{◌≡◌, ℕ, sym, ◌∙◌, ◌<◌, ◌+◌, ◌/◌, ◌⊎◌, inl, inr, refl, arith}
use Rattle.std.proofs.lemmas.Bool.{eqb-true}
use Rattle.mars_core.specs.Classes.{class_of_key, class_from_32, class_from_64, class_from_96}

-- the key of each of the first 128 classes
abbrev pub key_in : ℕ → ℕ
key_in c =
    -- table of keys
    if c == 0 then 2318
    else if c == 1 then 2361
    else if c == 2 then 6414
    else if c == 3 then 2066
    else if c == 4 then 2161
    else if c == 5 then 10553
    else if c == 6 then 2929
    else if c == 7 then 15886
    else if c == 8 then 8505
    else if c == 9 then 2324
    else if c == 10 then 2406
    else if c == 11 then 14606
    else if c == 12 then 2074
    else if c == 13 then 10580
    else if c == 14 then 2417
    else if c == 15 then 10510
    else if c == 16 then 2332
    else if c == 17 then 2398
    else if c == 18 then 14676
    else if c == 19 then 11278
    else if c == 20 then 14449
    else if c == 21 then 11534
    else if c == 22 then 4366
    else if c == 23 then 2308
    else if c == 24 then 2873
    else if c == 25 then 3342
    else if c == 26 then 2058
    else if c == 27 then 337
    else if c == 28 then 2369
    else if c == 29 then 10609
    else if c == 30 then 6201
    else if c == 31 then 2062
    else if c == 32 then 2385
    else if c == 33 then 11022
    else if c == 34 then 11524
    else if c == 35 then 15217
    else if c == 36 then 10577
    else if c == 37 then 2377
    else if c == 38 then 3844
    else if c == 39 then 4
    else if c == 40 then 10353
    else if c == 41 then 8305
    else if c == 42 then 12401
    else if c == 43 then 113
    else if c == 44 then 11121
    else if c == 45 then 9073
    else if c == 46 then 13169
    else if c == 47 then 4110
    else if c == 48 then 12558
    else if c == 49 then 8462
    else if c == 50 then 14862
    else if c == 51 then 3086
    else if c == 52 then 9486
    else if c == 53 then 3854
    else if c == 54 then 14094
    else if c == 55 then 8532
    else if c == 56 then 12628
    else if c == 57 then 11065
    else if c == 58 then 15161
    else if c == 59 then 10564
    else if c == 60 then 6750
    else if c == 61 then 6758
    else if c == 62 then 6757
    else if c == 63 then 3332
    else if c == 64 then 10254
    else if c == 65 then 14350
    else if c == 66 then 9230
    else if c == 67 then 15374
    else if c == 68 then 13070
    else if c == 69 then 12302
    else if c == 70 then 9998
    else if c == 71 then 13582
    else if c == 72 then 12814
    else if c == 73 then 8206
    else if c == 74 then 7950
    else if c == 75 then 13326
    else if c == 76 then 15118
    else if c == 77 then 12046
    else if c == 78 then 11790
    else if c == 79 then 3598
    else if c == 80 then 13838
    else if c == 81 then 9742
    else if c == 82 then 16142
    else if c == 83 then 15630
    else if c == 84 then 2830
    else if c == 85 then 2574
    else if c == 86 then 14649
    else if c == 87 then 12601
    else if c == 88 then 10297
    else if c == 89 then 8249
    else if c == 90 then 2105
    else if c == 91 then 2388
    else if c == 92 then 6484
    else if c == 93 then 10321
    else if c == 94 then 8529
    else if c == 95 then 12625
    else if c == 96 then 14673
    else if c == 97 then 6481
    else if c == 98 then 57
    else if c == 99 then 4153
    else if c == 100 then 14393
    else if c == 101 then 4420
    else if c == 102 then 6468
    else if c == 103 then 14660
    else if c == 104 then 8513
    else if c == 105 then 10561
    else if c == 106 then 4417
    else if c == 107 then 4425
    else if c == 108 then 6473
    else if c == 109 then 8561
    else if c == 110 then 14705
    else if c == 111 then 12657
    else if c == 112 then 4209
    else if c == 113 then 2673
    else if c == 114 then 8817
    else if c == 115 then 12345
    else if c == 116 then 2064
    else if c == 117 then 2072
    else if c == 118 then 2068
    else if c == 119 then 2096
    else if c == 120 then 2329
    else if c == 121 then 2325
    else if c == 122 then 2333
    else if c == 123 then 2154
    else if c == 124 then 2152
    else if c == 125 then 2397
    else if c == 126 then 2405
    else if c == 127 then 10500
    else 0
    -- end of keys

-- a class leads back to the key, or gives its modes
abbrev pub Leads : ℕ → ℕ → Type 0
Leads k c = ((c < 128) × (key_in c ≡ k)) ⊎ (c ≡ 128 + k / 256)

leads_if : (b : Bool) (k c r j : ℕ) → (b ≡ true → k ≡ j) → c < 128 → key_in c ≡ j → Leads k r → Leads k (if b then c else r)
leads_if true k c r j h s e l = inl (s, e ∙ sym (h refl))
leads_if false k c r j h s e l = l

leads_from_96 : (k : ℕ) → Leads k (class_from_96 k)
unfolding class_from_96
leads_from_96 k =
    -- table of tests from 96
    leads_if (k == 14673) k 96 _ 14673 (λ e. eqb-true _ _ e) (omega arith) refl (
    leads_if (k == 6481) k 97 _ 6481 (λ e. eqb-true _ _ e) (omega arith) refl (
    leads_if (k == 57) k 98 _ 57 (λ e. eqb-true _ _ e) (omega arith) refl (
    leads_if (k == 4153) k 99 _ 4153 (λ e. eqb-true _ _ e) (omega arith) refl (
    leads_if (k == 14393) k 100 _ 14393 (λ e. eqb-true _ _ e) (omega arith) refl (
    leads_if (k == 4420) k 101 _ 4420 (λ e. eqb-true _ _ e) (omega arith) refl (
    leads_if (k == 6468) k 102 _ 6468 (λ e. eqb-true _ _ e) (omega arith) refl (
    leads_if (k == 14660) k 103 _ 14660 (λ e. eqb-true _ _ e) (omega arith) refl (
    leads_if (k == 8513) k 104 _ 8513 (λ e. eqb-true _ _ e) (omega arith) refl (
    leads_if (k == 10561) k 105 _ 10561 (λ e. eqb-true _ _ e) (omega arith) refl (
    leads_if (k == 4417) k 106 _ 4417 (λ e. eqb-true _ _ e) (omega arith) refl (
    leads_if (k == 4425) k 107 _ 4425 (λ e. eqb-true _ _ e) (omega arith) refl (
    leads_if (k == 6473) k 108 _ 6473 (λ e. eqb-true _ _ e) (omega arith) refl (
    leads_if (k == 8561) k 109 _ 8561 (λ e. eqb-true _ _ e) (omega arith) refl (
    leads_if (k == 14705) k 110 _ 14705 (λ e. eqb-true _ _ e) (omega arith) refl (
    leads_if (k == 12657) k 111 _ 12657 (λ e. eqb-true _ _ e) (omega arith) refl (
    leads_if (k == 4209) k 112 _ 4209 (λ e. eqb-true _ _ e) (omega arith) refl (
    leads_if (k == 2673) k 113 _ 2673 (λ e. eqb-true _ _ e) (omega arith) refl (
    leads_if (k == 8817) k 114 _ 8817 (λ e. eqb-true _ _ e) (omega arith) refl (
    leads_if (k == 12345) k 115 _ 12345 (λ e. eqb-true _ _ e) (omega arith) refl (
    leads_if (k == 2064) k 116 _ 2064 (λ e. eqb-true _ _ e) (omega arith) refl (
    leads_if (k == 2072) k 117 _ 2072 (λ e. eqb-true _ _ e) (omega arith) refl (
    leads_if (k == 2068) k 118 _ 2068 (λ e. eqb-true _ _ e) (omega arith) refl (
    leads_if (k == 2096) k 119 _ 2096 (λ e. eqb-true _ _ e) (omega arith) refl (
    leads_if (k == 2329) k 120 _ 2329 (λ e. eqb-true _ _ e) (omega arith) refl (
    leads_if (k == 2325) k 121 _ 2325 (λ e. eqb-true _ _ e) (omega arith) refl (
    leads_if (k == 2333) k 122 _ 2333 (λ e. eqb-true _ _ e) (omega arith) refl (
    leads_if (k == 2154) k 123 _ 2154 (λ e. eqb-true _ _ e) (omega arith) refl (
    leads_if (k == 2152) k 124 _ 2152 (λ e. eqb-true _ _ e) (omega arith) refl (
    leads_if (k == 2397) k 125 _ 2397 (λ e. eqb-true _ _ e) (omega arith) refl (
    leads_if (k == 2405) k 126 _ 2405 (λ e. eqb-true _ _ e) (omega arith) refl (
    leads_if (k == 10500) k 127 _ 10500 (λ e. eqb-true _ _ e) (omega arith) refl (
    inr refl))))))))))))))))))))))))))))))))
    -- end of tests from 96

leads_from_64 : (k : ℕ) → Leads k (class_from_64 k)
unfolding class_from_64
leads_from_64 k =
    -- table of tests from 64
    leads_if (k == 10254) k 64 _ 10254 (λ e. eqb-true _ _ e) (omega arith) refl (
    leads_if (k == 14350) k 65 _ 14350 (λ e. eqb-true _ _ e) (omega arith) refl (
    leads_if (k == 9230) k 66 _ 9230 (λ e. eqb-true _ _ e) (omega arith) refl (
    leads_if (k == 15374) k 67 _ 15374 (λ e. eqb-true _ _ e) (omega arith) refl (
    leads_if (k == 13070) k 68 _ 13070 (λ e. eqb-true _ _ e) (omega arith) refl (
    leads_if (k == 12302) k 69 _ 12302 (λ e. eqb-true _ _ e) (omega arith) refl (
    leads_if (k == 9998) k 70 _ 9998 (λ e. eqb-true _ _ e) (omega arith) refl (
    leads_if (k == 13582) k 71 _ 13582 (λ e. eqb-true _ _ e) (omega arith) refl (
    leads_if (k == 12814) k 72 _ 12814 (λ e. eqb-true _ _ e) (omega arith) refl (
    leads_if (k == 8206) k 73 _ 8206 (λ e. eqb-true _ _ e) (omega arith) refl (
    leads_if (k == 7950) k 74 _ 7950 (λ e. eqb-true _ _ e) (omega arith) refl (
    leads_if (k == 13326) k 75 _ 13326 (λ e. eqb-true _ _ e) (omega arith) refl (
    leads_if (k == 15118) k 76 _ 15118 (λ e. eqb-true _ _ e) (omega arith) refl (
    leads_if (k == 12046) k 77 _ 12046 (λ e. eqb-true _ _ e) (omega arith) refl (
    leads_if (k == 11790) k 78 _ 11790 (λ e. eqb-true _ _ e) (omega arith) refl (
    leads_if (k == 3598) k 79 _ 3598 (λ e. eqb-true _ _ e) (omega arith) refl (
    leads_if (k == 13838) k 80 _ 13838 (λ e. eqb-true _ _ e) (omega arith) refl (
    leads_if (k == 9742) k 81 _ 9742 (λ e. eqb-true _ _ e) (omega arith) refl (
    leads_if (k == 16142) k 82 _ 16142 (λ e. eqb-true _ _ e) (omega arith) refl (
    leads_if (k == 15630) k 83 _ 15630 (λ e. eqb-true _ _ e) (omega arith) refl (
    leads_if (k == 2830) k 84 _ 2830 (λ e. eqb-true _ _ e) (omega arith) refl (
    leads_if (k == 2574) k 85 _ 2574 (λ e. eqb-true _ _ e) (omega arith) refl (
    leads_if (k == 14649) k 86 _ 14649 (λ e. eqb-true _ _ e) (omega arith) refl (
    leads_if (k == 12601) k 87 _ 12601 (λ e. eqb-true _ _ e) (omega arith) refl (
    leads_if (k == 10297) k 88 _ 10297 (λ e. eqb-true _ _ e) (omega arith) refl (
    leads_if (k == 8249) k 89 _ 8249 (λ e. eqb-true _ _ e) (omega arith) refl (
    leads_if (k == 2105) k 90 _ 2105 (λ e. eqb-true _ _ e) (omega arith) refl (
    leads_if (k == 2388) k 91 _ 2388 (λ e. eqb-true _ _ e) (omega arith) refl (
    leads_if (k == 6484) k 92 _ 6484 (λ e. eqb-true _ _ e) (omega arith) refl (
    leads_if (k == 10321) k 93 _ 10321 (λ e. eqb-true _ _ e) (omega arith) refl (
    leads_if (k == 8529) k 94 _ 8529 (λ e. eqb-true _ _ e) (omega arith) refl (
    leads_if (k == 12625) k 95 _ 12625 (λ e. eqb-true _ _ e) (omega arith) refl (
    leads_from_96 k))))))))))))))))))))))))))))))))
    -- end of tests from 64

leads_from_32 : (k : ℕ) → Leads k (class_from_32 k)
unfolding class_from_32
leads_from_32 k =
    -- table of tests from 32
    leads_if (k == 2385) k 32 _ 2385 (λ e. eqb-true _ _ e) (omega arith) refl (
    leads_if (k == 11022) k 33 _ 11022 (λ e. eqb-true _ _ e) (omega arith) refl (
    leads_if (k == 11524) k 34 _ 11524 (λ e. eqb-true _ _ e) (omega arith) refl (
    leads_if (k == 15217) k 35 _ 15217 (λ e. eqb-true _ _ e) (omega arith) refl (
    leads_if (k == 10577) k 36 _ 10577 (λ e. eqb-true _ _ e) (omega arith) refl (
    leads_if (k == 2377) k 37 _ 2377 (λ e. eqb-true _ _ e) (omega arith) refl (
    leads_if (k == 3844) k 38 _ 3844 (λ e. eqb-true _ _ e) (omega arith) refl (
    leads_if (k == 4) k 39 _ 4 (λ e. eqb-true _ _ e) (omega arith) refl (
    leads_if (k == 10353) k 40 _ 10353 (λ e. eqb-true _ _ e) (omega arith) refl (
    leads_if (k == 8305) k 41 _ 8305 (λ e. eqb-true _ _ e) (omega arith) refl (
    leads_if (k == 12401) k 42 _ 12401 (λ e. eqb-true _ _ e) (omega arith) refl (
    leads_if (k == 113) k 43 _ 113 (λ e. eqb-true _ _ e) (omega arith) refl (
    leads_if (k == 11121) k 44 _ 11121 (λ e. eqb-true _ _ e) (omega arith) refl (
    leads_if (k == 9073) k 45 _ 9073 (λ e. eqb-true _ _ e) (omega arith) refl (
    leads_if (k == 13169) k 46 _ 13169 (λ e. eqb-true _ _ e) (omega arith) refl (
    leads_if (k == 4110) k 47 _ 4110 (λ e. eqb-true _ _ e) (omega arith) refl (
    leads_if (k == 12558) k 48 _ 12558 (λ e. eqb-true _ _ e) (omega arith) refl (
    leads_if (k == 8462) k 49 _ 8462 (λ e. eqb-true _ _ e) (omega arith) refl (
    leads_if (k == 14862) k 50 _ 14862 (λ e. eqb-true _ _ e) (omega arith) refl (
    leads_if (k == 3086) k 51 _ 3086 (λ e. eqb-true _ _ e) (omega arith) refl (
    leads_if (k == 9486) k 52 _ 9486 (λ e. eqb-true _ _ e) (omega arith) refl (
    leads_if (k == 3854) k 53 _ 3854 (λ e. eqb-true _ _ e) (omega arith) refl (
    leads_if (k == 14094) k 54 _ 14094 (λ e. eqb-true _ _ e) (omega arith) refl (
    leads_if (k == 8532) k 55 _ 8532 (λ e. eqb-true _ _ e) (omega arith) refl (
    leads_if (k == 12628) k 56 _ 12628 (λ e. eqb-true _ _ e) (omega arith) refl (
    leads_if (k == 11065) k 57 _ 11065 (λ e. eqb-true _ _ e) (omega arith) refl (
    leads_if (k == 15161) k 58 _ 15161 (λ e. eqb-true _ _ e) (omega arith) refl (
    leads_if (k == 10564) k 59 _ 10564 (λ e. eqb-true _ _ e) (omega arith) refl (
    leads_if (k == 6750) k 60 _ 6750 (λ e. eqb-true _ _ e) (omega arith) refl (
    leads_if (k == 6758) k 61 _ 6758 (λ e. eqb-true _ _ e) (omega arith) refl (
    leads_if (k == 6757) k 62 _ 6757 (λ e. eqb-true _ _ e) (omega arith) refl (
    leads_if (k == 3332) k 63 _ 3332 (λ e. eqb-true _ _ e) (omega arith) refl (
    leads_from_64 k))))))))))))))))))))))))))))))))
    -- end of tests from 32

pub leads : (k : ℕ) → Leads k (class_of_key k)
unfolding class_of_key
leads k =
    -- table of tests from 0
    leads_if (k == 2318) k 0 _ 2318 (λ e. eqb-true _ _ e) (omega arith) refl (
    leads_if (k == 2361) k 1 _ 2361 (λ e. eqb-true _ _ e) (omega arith) refl (
    leads_if (k == 6414) k 2 _ 6414 (λ e. eqb-true _ _ e) (omega arith) refl (
    leads_if (k == 2066) k 3 _ 2066 (λ e. eqb-true _ _ e) (omega arith) refl (
    leads_if (k == 2161) k 4 _ 2161 (λ e. eqb-true _ _ e) (omega arith) refl (
    leads_if (k == 10553) k 5 _ 10553 (λ e. eqb-true _ _ e) (omega arith) refl (
    leads_if (k == 2929) k 6 _ 2929 (λ e. eqb-true _ _ e) (omega arith) refl (
    leads_if (k == 15886) k 7 _ 15886 (λ e. eqb-true _ _ e) (omega arith) refl (
    leads_if (k == 8505) k 8 _ 8505 (λ e. eqb-true _ _ e) (omega arith) refl (
    leads_if (k == 2324) k 9 _ 2324 (λ e. eqb-true _ _ e) (omega arith) refl (
    leads_if (k == 2406) k 10 _ 2406 (λ e. eqb-true _ _ e) (omega arith) refl (
    leads_if (k == 14606) k 11 _ 14606 (λ e. eqb-true _ _ e) (omega arith) refl (
    leads_if (k == 2074) k 12 _ 2074 (λ e. eqb-true _ _ e) (omega arith) refl (
    leads_if (k == 10580) k 13 _ 10580 (λ e. eqb-true _ _ e) (omega arith) refl (
    leads_if (k == 2417) k 14 _ 2417 (λ e. eqb-true _ _ e) (omega arith) refl (
    leads_if (k == 10510) k 15 _ 10510 (λ e. eqb-true _ _ e) (omega arith) refl (
    leads_if (k == 2332) k 16 _ 2332 (λ e. eqb-true _ _ e) (omega arith) refl (
    leads_if (k == 2398) k 17 _ 2398 (λ e. eqb-true _ _ e) (omega arith) refl (
    leads_if (k == 14676) k 18 _ 14676 (λ e. eqb-true _ _ e) (omega arith) refl (
    leads_if (k == 11278) k 19 _ 11278 (λ e. eqb-true _ _ e) (omega arith) refl (
    leads_if (k == 14449) k 20 _ 14449 (λ e. eqb-true _ _ e) (omega arith) refl (
    leads_if (k == 11534) k 21 _ 11534 (λ e. eqb-true _ _ e) (omega arith) refl (
    leads_if (k == 4366) k 22 _ 4366 (λ e. eqb-true _ _ e) (omega arith) refl (
    leads_if (k == 2308) k 23 _ 2308 (λ e. eqb-true _ _ e) (omega arith) refl (
    leads_if (k == 2873) k 24 _ 2873 (λ e. eqb-true _ _ e) (omega arith) refl (
    leads_if (k == 3342) k 25 _ 3342 (λ e. eqb-true _ _ e) (omega arith) refl (
    leads_if (k == 2058) k 26 _ 2058 (λ e. eqb-true _ _ e) (omega arith) refl (
    leads_if (k == 337) k 27 _ 337 (λ e. eqb-true _ _ e) (omega arith) refl (
    leads_if (k == 2369) k 28 _ 2369 (λ e. eqb-true _ _ e) (omega arith) refl (
    leads_if (k == 10609) k 29 _ 10609 (λ e. eqb-true _ _ e) (omega arith) refl (
    leads_if (k == 6201) k 30 _ 6201 (λ e. eqb-true _ _ e) (omega arith) refl (
    leads_if (k == 2062) k 31 _ 2062 (λ e. eqb-true _ _ e) (omega arith) refl (
    leads_from_32 k))))))))))))))))))))))))))))))))
    -- end of tests from 0

small_of : (k c : ℕ) → k < 16384 → Leads k c → c < 192
small_of k c l (inl h) = omega (arith, h.0)
small_of k c l (inr h) = omega (arith, h)

pub class_small : (k : ℕ) → k < 16384 → class_of_key k < 192
class_small k l = small_of k (class_of_key k) l (leads k)
