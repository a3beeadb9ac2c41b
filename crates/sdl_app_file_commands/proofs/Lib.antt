mod Fronts
mod Printed
