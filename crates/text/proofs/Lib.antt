mod Fronts
mod HexLaws
mod NumberLaws
mod Parts
