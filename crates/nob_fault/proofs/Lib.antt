mod Coming
mod Draws
